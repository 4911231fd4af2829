-- What is so of each run, of what its devices tell.
--     FitsKeeper    what the sink's store has, by what the machine counts as stored
--     BeginsRight   when that is known
--     IsWhole       all of it
use Rattle.std.specs.Prelude.{◌≡◌, ℕ, ◌+◌, ◌≤◌, ◌⊎◌, Bool, List, Option, None, Some, IsTrue, IfSome}
use Rattle.apx_tuple.specs.declared.tuple.Tuple.{Tuple}
use Rattle.apx_pass.specs.Pass.{Dataflow, mean_up_to}
use Rattle.apx_course.specs.declared.faults.CoreFault.{CoreFault}
use Rattle.apx_course.specs.Faults.{status_of}
use Rattle.apx_course.specs.Run.{Run}
use Rattle.apx_stores.specs.Caused.{Counts, IsCaused}

-- The sink's store has the rows of the windows 1 to s. Where the run stopped with status 9 it may have those of one window more.
abbrev pub FitsKeeper : Dataflow → Option ℕ → ℕ → List (List Tuple) → Type 0
FitsKeeper flow status s rows = (rows ≡ mean_up_to flow s) ⊎ ((status ≡ Some 9) × (rows ≡ mean_up_to flow (s + 1)))

-- which devices of a run tell what they hold
pub record Tells : Type 0 where
  -- the sink's store
  pub keeper : Bool
  -- the checkpoint store
  pub vault : Bool
  -- the spools
  pub spools : Bool

-- all devices tell, and the sink's store began with the rows of the one pass
pub record BeginsRight (run : Run) (keeper : Bool) : Type 0 where
  -- the checkpoint store and the spools tell
  pub told : IsTrue run.told
  -- and so does the sink's store
  pub keeper_tells : IsTrue keeper
  -- it had the rows of the windows up to its last one
  pub rows : run.rows ≡ mean_up_to run.job.flow run.stored

-- what the devices had counted as the run began
abbrev pub counted : Run → Counts
counted run = record { keeper = run.keeper; vault = run.vault; spools = run.spools }

-- What is so of a run with s windows stored, of the rows and the last window of the sink's store, of whether the stores
-- are sound, and of the counts of faults. What is said of a run that goes on isn't owed by one that has stopped.
pub record IsWhole {F : Type 0} (run : Run) (tells : Tells) (s : ℕ) (fault : Option (CoreFault F)) (rows : List (List Tuple)) (last : ℕ)
    (sound vault_sound : Bool) (k v p : ℕ) : Type 0 where
  -- the rows are those of the one pass, where all devices tell and the sink's store began with them
  pub rows_fit : BeginsRight run tells.keeper → FitsKeeper run.job.flow (status_of fault) s rows
  -- the last window is the one that the machine counts as stored
  pub last_is : fault ≡ None → last ≡ s
  -- the sink's store is sound
  pub is_sound : fault ≡ None → IsTrue sound
  -- the checkpoint store is sound
  pub is_vault_sound : fault ≡ None → IsTrue vault_sound
  -- no count fell since the run began
  pub keeper_counts : run.keeper ≤ k
  -- nor that of the checkpoint store
  pub vault_counts : run.vault ≤ v
  -- nor that of the maker of spools
  pub spools_count : run.spools ≤ p
  -- a fault has its cause
  pub caused : IfSome fault
      (IsCaused run.job run.told tells.vault tells.spools (counted run) (record { keeper = k; vault = v; spools = p }))
