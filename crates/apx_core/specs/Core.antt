-- What contracts see of a core, and what is so of each.
use Rattle.std.specs.Prelude.{◌≡◌, ℕ, Bool, List, [], Option, None, Some, IsTrue}
use Rattle.apx_device.specs.declared.vault.SaveId.{SaveId}
use Rattle.apx_device.specs.Vault.{Entry, entry_at, with_entry}
use Rattle.apx_history.specs.State.{State}
use Rattle.apx_job.specs.Job.{plan_of}
use Rattle.apx_course.specs.Run.{Run}
use Rattle.apx_course.specs.Course.{Standing}
use Rattle.apx_stores.specs.Stored.{Stored}
use Rattle.apx_held.specs.Holding.{Holding, IsSpelled}
use Rattle.apx_held.specs.Fits.{Telling, IsSaved, Fits}
use Rattle.apx_promise.specs.Contents.{HasSaved, HasNoMore}

-- the run with its devices, and what is kept for each partition
pub record Seen (K V P F : Type 0) : Type 0 where
  -- the run with its devices
  pub stores : Stored K V P F
  -- of each operator what is kept for each of its partitions
  pub held : List (List Holding)

-- which devices of a run tell what they hold, where the checkpoint store does or doesn't
abbrev pub telling : Run → Bool → Telling
telling run vault = record { all = run.told; vault = vault }

-- The bytes spell a progress that isn't large. Where the checkpoint store and the spools tell, that is what the partition of the id
-- carries, in its epoch, from its window.
abbrev pub IsCheckpoint : Run → SaveId → List ℕ → Type 0
IsCheckpoint run id bytes = IsSaved run.job run.told id.op id.boundary id.part id.window (Some bytes)

-- What a checkpoint store that tells has where the run's machine is in a state: each checkpoint that a state must have saved, also
-- of epochs that were left; and where the store was empty as the run began, no more than may be there.
pub record HasRunSaves (run : Run) (m : State) (at : SaveId → Option (List ℕ)) : Type 0 where
  -- what must be there
  pub saved : HasSaved (IsCheckpoint run) run.plan m at
  -- and no more
  pub no_more : run.entries ≡ [] → HasNoMore (IsCheckpoint run) run.plan m at

-- What is so of each core, of whether the checkpoint store tells and what it has. A core that has stopped owes no contents.
pub record IsCore {F : Type 0} (run : Run) (vault : Bool) (entries : List Entry) (c : Standing F) (hs : List (List Holding)) : Type 0 where
  -- the machine runs the plan of the job
  pub planned : run.plan ≡ plan_of run.job
  -- what is kept fits the machine's state
  pub fits : c.fault ≡ None → Fits run.job (telling run vault) (entry_at entries) c.machine hs
  -- the checkpoint store has the run's checkpoints, where it tells
  pub saves : c.fault ≡ None → IsTrue vault → HasRunSaves run c.machine (entry_at entries)

-- what a checkpoint store has got more: under an id the bytes of a progress that is kept
pub record IsSavedIn (id : SaveId) (h : Holding) (old new : List Entry) : Type 0 where
  -- the bytes
  pub bytes : List ℕ
  -- they spell it
  pub spelled : IsSpelled h bytes
  -- they are what it has under the id now
  pub added : new ≡ with_entry old id bytes
