-- How the program ends, with stores in memory that held nothing, spools in memory and an output that doesn't tell.
use Rattle.std.specs.Prelude.{◌≡◌, ℕ, true, false, List, [], length, Option}
use Rattle.std.specs.declared.convert.Infallible.{Infallible}
use Rattle.apx_device.specs.Folder.{Answer}
use Rattle.apx_device.specs.declared.memory_keeper.MemoryKeeper.{MemoryKeeper}
use Rattle.apx_device.specs.declared.memory_vault.MemoryVault.{MemoryVault}
use Rattle.apx_device.specs.declared.memory_spool.MemorySpools.{MemorySpools}
use Rattle.apx_device.specs.MemoryKeeper.{windows_of}
use Rattle.apx_device.specs.VaultsInMemory.{entries_of}
use Rattle.apx_stores.specs.declared.devices.Devices.{Devices}
use Rattle.apx_load.specs.Refusals.{by_files}
use Rattle.apx_top.specs.declared.ended.Ended.{Ended}
use Rattle.apx_top.specs.Changes.{DevicesChange, OutputChange, keeper_meaning, vault_meaning, spools_meaning, devices_change, output_change, call_of}
use Rattle.apx_top.specs.Headline.{IsOneHistory, HasStored, HasKeptNeeded, HasEndedWhole, HasLeftCheckpoints, HasNamedCause}
use Rattle.apx_top.specs.Left.{left_by}
use Rattle.apx_top.specs.Plain.{HasEnded}

-- devices in memory
abbrev pub InMemory : Type 0
InMemory = Devices MemoryKeeper MemoryVault MemorySpools

-- what a run in memory leaves; its spools never fail
abbrev pub EndedInMemory : Type 0
EndedInMemory = Ended MemoryKeeper MemoryVault MemorySpools Infallible

-- the change of devices in memory
abbrev pub memory_change : (old new : InMemory) → DevicesChange
memory_change old new =
    devices_change (keeper_meaning true windows_of (λ keeper. length (windows_of keeper)) (λ _. 0))
    (vault_meaning true entries_of (λ _. 0)) (spools_meaning true (λ _. 0)) old new

-- the change of an output that doesn't tell, by its counts of faults
abbrev pub untold_change : (old new : ℕ) → OutputChange
untold_change old new = output_change false (λ _. []) (λ faults. faults) old new

-- the devices that it begins with, and the output's counts of faults
pub record Begun : Type 0 where
  -- the devices
  pub fresh : InMemory
  -- the sink's store held nothing
  pub empty : windows_of fresh.keeper ≡ []
  -- nor did the checkpoint store
  pub empty_vault : entries_of fresh.vault ≡ []
  -- the output's count of faults before
  pub before : ℕ
  -- and after
  pub after : ℕ

-- how it ended, from stores that held nothing, whatever faults the output had
pub record HasPerformed (words : List (List ℕ)) (answers : List Answer) (folder : Type 0) (errors : OutputChange)
    (ended : EndedInMemory) : Type 0 where
  -- what it began with
  pub begun : Begun
  -- it ended as the top call ends
  pub is : HasEnded words
      (call_of answers folder (memory_change begun.fresh ended.devices) (untold_change begun.before begun.after) errors) (left_by ended)

-- Of files that the folder tells, it keeps what the top call promises of a run.
pub record KeepsPromises (told : List ℕ → Option (List ℕ)) (words : List (List ℕ)) (errors : OutputChange)
    (ended : EndedInMemory) : Type 0 where
  -- what it began with
  pub begun : Begun
  -- what happened is one history
  pub history : IsOneHistory (by_files told) words (left_by ended) (memory_change begun.fresh ended.devices)
  -- the sink's store has exactly the rows of the one pass
  pub store : HasStored (by_files told) words ended.journal (memory_change begun.fresh ended.devices)
  -- no block that may still be read was dropped
  pub needed : HasKeptNeeded (by_files told) words ended.journal (memory_change begun.fresh ended.devices)
  -- with status 0 all is stored
  pub whole : HasEndedWhole (by_files told) words (left_by ended)
      (memory_change begun.fresh ended.devices) (untold_change begun.before begun.after) errors
  -- and the checkpoint store has the last checkpoints
  pub checkpoints : HasLeftCheckpoints (by_files told) words (left_by ended) (memory_change begun.fresh ended.devices)
  -- each status has its cause
  pub cause : HasNamedCause (by_files told) words (left_by ended)
      (memory_change begun.fresh ended.devices) (untold_change begun.before begun.after) errors
