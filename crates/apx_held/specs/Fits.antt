-- What is kept for partitions, and what the vault has of them, fits a state of the machine. Operators and partitions count
-- from 0.
--     FitsPart    what is kept for one partition
--     FitsVault   what the vault has of one partition
--     Fits        of all partitions
use Rattle.std.specs.Prelude.{◌≡◌, ℕ, ◌<◌, ◌≤◌, Bool, true, List, [], length, get_or, Option, None, Some, IsTrue, IsSome, IfSome}
use Rattle.apx_device.specs.declared.vault.SaveId.{SaveId}
use Rattle.apx_history.specs.Plan.{has}
use Rattle.apx_history.specs.State.{Slot, State, oper, slot, IsPart}
use Rattle.apx_tuple.specs.declared.progress.Progress.{Progress}
use Rattle.apx_list.specs.Listed.{Listed, AreUpTo}
use Rattle.apx_list.specs.Window.{SpellWindow}
use Rattle.apx_pass.specs.Pass.{sink_of}
use Rattle.apx_pass.specs.Job.{Job}
use Rattle.apx_part.specs.Fed.{plan_in}
use Rattle.apx_statebytes.specs.Spelling.{second_spelling, IsProgress}
use Rattle.apx_held.specs.declared.held.Unnamed.{Unnamed}
use Rattle.apx_held.specs.Holding.{Holding, holding}
use Rattle.apx_held.specs.Partition.{progress_at, tuples_at, blocks_at, blocks_above}

-- which devices tell what they hold
pub record Telling : Type 0 where
  -- the checkpoint store and the spools do
  pub all : Bool
  -- the checkpoint store does
  pub vault : Bool

-- A list has whole windows alone, as they are counted for the partition. Where the checkpoint store and the spools tell, its
-- blocks are those of the partition.
pub record FitsList (job : Job) (told : Bool) (o b i : ℕ) (x : Slot) (list : Listed Unnamed) : Type 0 where
  -- its windows are cut as the job's are
  pub cut : list.plan ≡ plan_in job
  -- the windows up to this one were dropped
  pub floor : list.floor ≡ x.floor
  -- the last whole window is the last finished one
  pub top : list.top ≡ x.at
  -- there is no block of the window after
  pub whole : AreUpTo list.top list.blocks
  -- they are the partition's
  pub named : IsTrue told → list.blocks ≡ blocks_above job o b i x.floor x.at
  -- whose tuples they spell, window by window
  pub spelled : IsTrue told → (w : ℕ) → x.floor < w → w ≤ x.at →
      SpellWindow (plan_in job) w (blocks_at job o b i w) (tuples_at job o b i w)

-- what is kept for partition i of operator o in the epoch with boundary b
pub record FitsPart (job : Job) (told : Bool) (o b i : ℕ) (x : Slot) (h : Holding) : Type 0 where
  -- where no window is open, its progress is at home
  pub home : x.opened ≡ None → IsSome h.state
  -- where the checkpoint store and the spools tell, that is what the partition carries from its last window
  pub state : IsTrue told → IfSome h.state (λ g. g ≡ progress_at job o b i x.at)
  -- but for the sink there is a list
  pub list : (o ≡ sink_of job.flow.nodes → ⊥) → FitsList job told o b i x h.list

-- the id of the checkpoint of partition i of operator o after window w
abbrev pub save_id : ℕ → ℕ → ℕ → ℕ → SaveId
save_id o b i w = record { op = o; boundary = b; part = i; window = w }

-- What is found under the id of a checkpoint spells a progress that isn't large. Where the checkpoint store and the spools
-- tell, that is what the partition carries from the window.
pub record IsSaved (job : Job) (told : Bool) (o b i w : ℕ) (found : Option (List ℕ)) : Type 0 where
  -- the progress
  pub progress : Progress
  -- what is found spells it
  pub spelled : found ≡ Some (second_spelling progress)
  -- it isn't large
  pub small : IsProgress progress
  -- it is the partition's
  pub named : IsTrue told → progress ≡ progress_at job o b i w

-- for each saved window but 0 there is a checkpoint
abbrev pub FitsVault : Job → Bool → (SaveId → Option (List ℕ)) → ℕ → ℕ → ℕ → Slot → Type 0
FitsVault job told at o b i x = (w : ℕ) → 0 < w → has x.saved w ≡ true → IsSaved job told o b i w (at (save_id o b i w))

-- for each partition
abbrev pub AreSaved : Job → Bool → (SaveId → Option (List ℕ)) → State → Type 0
AreSaved job told at m = (o i : ℕ) → IsPart m o i → FitsVault job told at o (oper m o).boundary i (slot m o i)

-- What is kept for each partition fits the machine, and so does what the vault has, where it tells.
pub record Fits (job : Job) (tells : Telling) (at : SaveId → Option (List ℕ)) (m : State) (hs : List (List Holding)) : Type 0 where
  -- the operators are the machine's
  pub ops : length hs ≡ length m.ops
  -- each has its partitions
  pub sizes : (o : ℕ) → o < length m.ops → length (get_or hs o []) ≡ length (oper m o).parts
  -- each of them fits
  pub each : (o i : ℕ) → IsPart m o i → FitsPart job tells.all o (oper m o).boundary i (slot m o i) (holding hs o i)
  -- and so do its checkpoints
  pub vault : IsTrue tells.vault → AreSaved job tells.all at m
