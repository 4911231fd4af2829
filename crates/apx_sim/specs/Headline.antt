-- What a whole run promises, over its arguments and its answer alone: the job, the last window s that the sink's store had, the
-- order, what the devices had counted, what they tell and have behind the run, what happened, and why it stopped, if it did.
--     OneHistory        what happened is one history, in the order that the number picks
--     StoresEachOnce    the sink's store has exactly the rows of the one pass, each window once
--     KeepsNeeded       no block of a window that may still be read was dropped
--     EndsWhole         without a fault every window is stored, and each line of the script was met once
--     HasCheckpoints    without a fault the checkpoint store has the last checkpoints, and no other where it began empty
--     LosesNoWindow     what a crash leaves of the sink's store
--     IsStopped         a fault has its status, and its cause (IsCaused of apx_stores)
--     IsReadable        without a fault every window can be read back from the sink's store
use Rattle.std.specs.Prelude.{◌≡◌, ℕ, ◌<◌, ◌≤◌, Bool, false, List, [], ◌∷◌, ◌++◌, length, map, Option, None, IsTrue, IfSome}
use Rattle.std.specs.Map.{keys_of}
use Rattle.apx_cause.specs.Steps.{Steps}
use Rattle.apx_tuple.specs.declared.tuple.Tuple.{Tuple}
use Rattle.apx_device.specs.declared.vault.SaveId.{SaveId}
use Rattle.apx_device.specs.Vault as vault
use Rattle.apx_history.specs.declared.Entry.{Entry}
use Rattle.apx_history.specs.declared.Event.TheVariants.{End}
use Rattle.apx_history.specs.Plan.{last_checkpoint}
use Rattle.apx_history.specs.State.{State, slot, IsPart, running}
use Rattle.apx_history.specs.Journals.{beginning, after, times_met}
use Rattle.apx_history.specs.Kept.{IsNeeded}
use Rattle.apx_history.specs.Laws.{IsHistory, bound}
use Rattle.apx_pass.specs.Pass.{windows}
use Rattle.apx_pass.specs.Job.{Job}
use Rattle.apx_job.specs.Job.{plan_of}
use Rattle.apx_course.specs.declared.faults.CoreFault.{CoreFault}
use Rattle.apx_course.specs.Faults.{status_of}
use Rattle.apx_course.specs.Course.{entry}
use Rattle.apx_statebytes.specs.Spelling.{second_spelling}
use Rattle.apx_held.specs.Partition.{progress_at}
use Rattle.apx_held.specs.Fits.{IsSaved}
use Rattle.apx_promise.specs.Checkpoints.{IsLastSave, last_saves}
use Rattle.apx_stores.specs.Caused.{Counts, AreLater, IsCaused}
use Rattle.apx_stores.specs.Crashes.{IsFirst}
use Rattle.apx_stores.specs.Whole.{FitsKeeper}
use Rattle.apx_drive.specs.Driven.{IsOrdered}

-- the state before the first event, over a store with the windows up to s
abbrev pub start_of : Job → ℕ → State
start_of job s = beginning (plan_of job) s 0

-- the state behind what happened
abbrev pub left_by : Job → ℕ → List Entry → State
left_by job s es = after (plan_of job) (start_of job s) es

-- What happened is one history: each entry may come where it stands, by a worker who may do it. They are those that the order
-- picks, or such ones and one fault behind them, and behind them nothing may come.
pub record OneHistory (job : Job) (order s : ℕ) (es : List Entry) : Type 0 where
  -- it is a history of the job
  pub history : IsHistory (plan_of job) s 0 es
  -- in the order that the number picks
  pub ordered : IsOrdered (plan_of job) order (start_of job s) es
  -- which goes on no more
  pub stands : running (left_by job s es) ≡ false
  -- and is no longer than the bound of the job
  pub few : length es ≤ bound (plan_of job)

-- The sink's store has exactly the rows of the one pass for the windows that are stored, each window once, in order. Where the run
-- stopped as the store failed it may have those of one window more.
pub record StoresEachOnce (job : Job) (s : ℕ) (told : Bool) (es : List Entry) (rows : List (List Tuple)) : Type 0 where
  -- the rows, where all devices tell
  pub fits : IsTrue told → FitsKeeper job.flow (left_by job s es).fault (left_by job s es).stored rows

-- At no moment was a block dropped that may still be read: a window to which some reader may go back is above the floor.
pub record KeepsNeeded (job : Job) (s : ℕ) (es : List Entry) : Type 0 where
  -- behind each front of what happened
  pub kept : (front rest : List Entry) → es ≡ front ++ rest → (o i w : ℕ) → IsPart (left_by job s front) o i →
      IsNeeded (plan_of job) (left_by job s front) o i w → (slot (left_by job s front) o i).floor < w

-- the last window behind which checkpoints are made
abbrev pub last_window : Job → ℕ
last_window job = last_checkpoint (plan_of job) (windows job.flow)

-- Without a fault the run has ended: its last entry is End, every window is stored, the last checkpoint is committed, and each
-- line of the script was met exactly once.
pub record EndsWhole {F : Type 0} (job : Job) (s : ℕ) (es : List Entry) (fault : Option (CoreFault F)) : Type 0 where
  -- the last entry
  pub last : fault ≡ None → (front : List Entry) × (worker : ℕ) × (es ≡ front ++ entry worker End ∷ [])
  -- all is stored
  pub stored : fault ≡ None → (left_by job s es).stored ≡ windows job.flow
  -- the last checkpoint is committed
  pub committed : fault ≡ None → (left_by job s es).committed ≡ last_window job
  -- each line was met once
  pub once : fault ≡ None → (l : ℕ) → l < length job.script → times_met l es ≡ 1

-- the checkpoint of an id: the bytes that spell what its partition carries, in its epoch, from its window
abbrev pub checkpoint_of : Job → SaveId → vault.Entry
checkpoint_of job id = (id, second_spelling (progress_at job id.op id.boundary id.part id.window))

-- Without a fault the checkpoint store has, where it tells, the last checkpoints: those after the last window at which checkpoints
-- are made, of each partition of each epoch that has this window or begins behind it. Where it was empty as the run began it has
-- these alone, and none with last window 0. Each spells a progress. Where the checkpoint store and the spools tell, that is what
-- the partition carries.
pub record HasCheckpoints {F : Type 0} (job : Job) (told vault_tells : Bool) (fault : Option (CoreFault F))
    (began entries : List vault.Entry) : Type 0 where
  -- each of them is there, and spells a progress
  pub each : fault ≡ None → IsTrue vault_tells → (id : SaveId) → IsLastSave (plan_of job) id →
      IsSaved job told id.op id.boundary id.part id.window (vault.entry_at entries id)
  -- in order, and no other
  pub only : fault ≡ None → IsTrue vault_tells → began ≡ [] → keys_of entries ≡ last_saves (plan_of job)
  -- with these bytes
  pub exact : fault ≡ None → IsTrue vault_tells → IsTrue told → began ≡ [] → entries ≡ map (checkpoint_of job) (last_saves (plan_of job))

-- A crash at any moment of the run leaves of the sink's store what it might have left before the run, or the first windows of the
-- one pass with all that it had as the run began. A crash behind the run leaves each window that is stored.
pub record LosesNoWindow {K : Type 0} (job : Job) (s : ℕ) (es : List Entry) (time : K → ℕ) (left : K → ℕ → List (List Tuple) → Type 0)
    (old new : K) : Type 0 where
  -- at any moment
  pub within : Steps (time old) (time new) (left old) (left new) (IsFirst job.flow s (windows job.flow))
  -- behind the run
  pub behind : (rows : List (List Tuple)) → left new (time new) rows → IsFirst job.flow (left_by job s es).stored (windows job.flow) rows

-- A fault has its status in what happened, and its cause. No device has counted fewer faults than before.
pub record IsStopped {F : Type 0} (job : Job) (s : ℕ) (es : List Entry) (fault : Option (CoreFault F))
    (told vault spools : Bool) (before now : Counts) : Type 0 where
  -- the status that the run stopped with
  pub status : (left_by job s es).fault ≡ status_of fault
  -- the cause
  pub cause : IfSome fault (IsCaused job told vault spools before now)
  -- no count fell
  pub later : AreLater before now

-- Without a fault the sink's store has every window of the job, and may be called on: each can be read back.
pub record IsReadable {F : Type 0} (job : Job) (fault : Option (CoreFault F)) (sound : Bool) (last : ℕ) : Type 0 where
  -- no call of it has failed
  pub is_sound : fault ≡ None → IsTrue sound
  -- the last window is the job's
  pub all : fault ≡ None → last ≡ windows job.flow
