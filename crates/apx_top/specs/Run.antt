-- What a run of a job promises, for every device: each promise on what a device holds is for one that tells it.
--     HasRunAs       what happened, and what the devices have
--     HasPrinted     what `sim` and `run` print behind it
--     HasReported    what `gen` prints behind it
--     HasRun         how a run ends
use Rattle.std.specs.Prelude.{◌≡◌, ℕ, ◌≤◌, ◌<◌, ◌⊎◌, min, length, IsTrue, List, ◌++◌, Option, Some, None, Result, Ok, Err, ⊤}
use Rattle.std.specs.List.{sum_by}
use Rattle.apx_tuple.specs.declared.tuple.Tuple.{Tuple}
use Rattle.apx_cause.specs.Cause.{Rose}
use Rattle.apx_device.specs.Out.{GotFront}
use Rattle.apx_history.specs.declared.Entry.{Entry}
use Rattle.apx_course.specs.declared.faults.CoreFault.{CoreFault}
use Rattle.apx_pass.specs.Pass.{Dataflow, windows, mean, mean_up_to}
use Rattle.apx_pass.specs.Texts.{windows_text}
use Rattle.apx_pass.specs.Job.{Job}
use Rattle.apx_sim.specs.Headline.{StoresEachOnce, KeepsNeeded, EndsWhole, HasCheckpoints, IsStopped}
use Rattle.apx_tally.specs.Report as tally
use Rattle.apx_load.specs.declared.stop.Stop.{Stop}
use Rattle.apx_load.specs.declared.stop.Stop.TheVariants.{OutputFailed, Memory}
use Rattle.apx_load.specs.Stops.{Causes, IsCaused, no_causes}
use Rattle.apx_top.specs.Changes.{DevicesChange, OutputChange, held_tell, all_tell}
use Rattle.apx_top.specs.Left.{Left, without_run, stopped_with, ran_to}
use Rattle.apx_top.specs.Way.{Way, IsHistoryBy}

-- the texts of the windows that the one pass gives, over a base second
abbrev pub mean_text : ℕ → Dataflow → List ℕ
mean_text base flow = windows_text base 1 (mean flow)

-- the texts of the job's windows, over its base
abbrev pub run_text : Job → List ℕ
run_text job = mean_text job.settings.base job.flow

-- how many rows some windows have, up to the last value of 64 bits
abbrev pub row_count : List (List Tuple) → ℕ
row_count stored = min (sum_by length stored) 18446744073709551615

-- the report of a run of a job with this journal; its rows are those of the one pass
abbrev pub report_text : Job → List Entry → List ℕ
report_text job es = tally.report_text (windows job.flow) (row_count (mean job.flow)) es

-- ---- what happened

-- the sink's store began with the rows of the one pass for its windows
abbrev pub HasBegun : Job → DevicesChange → Type 0
HasBegun job devices = devices.store.before ≡ mean_up_to job.flow devices.store.last_before

-- A run of a job in some way, with this journal, and this fault where it stopped with one.
pub record HasRunAs {F : Type 0} (job : Job) (way : Way) (devices : DevicesChange) (es : List Entry)
    (fault : Option (CoreFault F)) : Type 0 where
  -- the sink's store began with no more windows than the job has
  pub few : devices.store.last_before ≤ windows job.flow
  -- what happened is one history, as its way says
  pub history : IsHistoryBy job way devices.store.last_before es
  -- the sink's store has exactly the rows of the one pass, each window once
  pub store : HasBegun job devices → StoresEachOnce job devices.store.last_before (all_tell devices) es devices.store.after
  -- no block of a window that may still be read was dropped
  pub needed : KeepsNeeded job devices.store.last_before es
  -- without a fault every window is stored, and each line of the script was met once
  pub whole : EndsWhole job devices.store.last_before es fault
  -- without a fault the checkpoint store has the last checkpoints
  pub checkpoints : HasCheckpoints job (held_tell devices) devices.vault.tells fault devices.vault.before devices.vault.after
  -- a fault has its status, and its cause
  pub stopped : IsStopped job devices.store.last_before es fault (held_tell devices) devices.vault.tells devices.spools_tell
      devices.before devices.now

-- ---- what is printed behind it

-- what stops printing: a fault of the store or of an output
abbrev pub printing_causes : (store output : Type 0) → Causes
printing_causes store output = record no_causes { store = store; output = output }

-- an output that tells has got a front of the text, and nothing else
abbrev pub GotText : List ℕ → OutputChange → Type 0
GotText text output = IsTrue output.tells → GotFront text output.before output.after

-- an output that tells has got the whole text, and nothing else
abbrev pub GotAll : List ℕ → OutputChange → Type 0
GotAll text output = IsTrue output.tells → output.after ≡ output.before ++ text

-- what is printed is the one pass': all devices tell, and the sink's store began with its rows
abbrev pub IsOfPass : Job → DevicesChange → Type 0
IsOfPass job devices = IsTrue (all_tell devices) × HasBegun job devices

-- What `sim` and `run` print of a run that came to its end: the rows on the output, and behind them the report on the error output.
pub record HasPrinted (job : Job) (es : List Entry) (devices : DevicesChange) (output errors : OutputChange)
    (end : Result ⊤ Stop) : Type 0 where
  -- all of both, where printing came to its end
  pub whole : end ≡ Ok tt → IsOfPass job devices → GotAll (run_text job) output × GotAll (report_text job es) errors
  -- else a front of the rows
  pub front : (stop : Stop) → end ≡ Err stop → IsOfPass job devices → GotText (run_text job) output
  -- and of the report, where an output stopped it
  pub report_front : end ≡ Err OutputFailed → IsOfPass job devices → GotText (report_text job es) errors
  -- why it stopped
  pub cause : (stop : Stop) → end ≡ Err stop →
      IsCaused (printing_causes (Rose devices.before.keeper devices.now.keeper) (output.rose ⊎ errors.rose)) stop

-- What `gen` prints of a run that came to its end: the report on the output.
pub record HasReported (job : Job) (es : List Entry) (devices : DevicesChange) (output : OutputChange) (end : Result ⊤ Stop) : Type 0 where
  -- all of it, where printing came to its end
  pub whole : end ≡ Ok tt → IsOfPass job devices → GotAll (report_text job es) output
  -- else a front of it
  pub front : (stop : Stop) → end ≡ Err stop → IsOfPass job devices → GotText (report_text job es) output
  -- why it stopped
  pub cause : (stop : Stop) → end ≡ Err stop →
      IsCaused (printing_causes (Rose devices.before.keeper devices.now.keeper) output.rose) stop

-- ---- how a run of a job ends

-- nothing is on the output
abbrev pub IsUnprinted : OutputChange → Type 0
IsUnprinted output = output.after ≡ output.before

-- what keeps a run from its begin: the maker of spools failed
abbrev pub start_causes : DevicesChange → Causes
start_causes devices = record no_causes { spool = Rose devices.before.spools devices.now.spools }

-- How a run of a job ends: no run began, and both stores came back; it stopped with a fault; or it came to its end, and P says
-- how it went on. Over a store with more windows than the job no run begins, and that is told as want of memory. Where it didn't
-- come to its end, U holds.
pub data HasRun {F : Type 0} (U : Type 0) (P : List Entry → Result ⊤ Stop → Type 0) (job : Job) (way : Way)
    (devices : DevicesChange) (left : Left F) : Type 0 where
  unbegun :
      (stop : Stop) → left ≡ without_run (Err stop) → IsCaused (start_causes devices) stop →
      (windows job.flow < devices.store.last_before → stop ≡ Memory) → devices.stores_same → U →
      HasRun U P job way devices left
  stopped :
      (es : List Entry) (fault : CoreFault F) → left ≡ stopped_with es fault → HasRunAs job way devices es (Some fault) → U →
      HasRun U P job way devices left
  ended :
      (es : List Entry) (end : Result ⊤ Stop) → left ≡ ran_to es end → HasRunAs {F = F} job way devices es None → P es end →
      HasRun U P job way devices left
