-- What the program promises of a run, over its words, the files that the folder tells, the devices and the answer alone. The job
-- is that of the words and files, and the way that of the words: the order of one thread, or how many workers there are; those of
-- `gen` are made of its number and size.
--     IsOneHistory        what happened is one history, in the order that the number picks or by the workers
--     HasStored           the sink's store has exactly the rows of the one pass for its windows, each window once
--     HasKeptNeeded       no block of a window that may still be read was dropped
--     HasEndedWhole       with status 0 every window is stored and printed, and each line of the script was met once
--     HasLeftCheckpoints  with status 0 the checkpoint store has the last checkpoints
--     HasNamedCause       each status has its cause, and a run that stopped has printed nothing, unless it stopped while printing
use Rattle.std.specs.Prelude.{◌≡◌, ℕ, ◌≤◌, ◌⊎◌, Bool, List, Option, Some, None, Ok, Err, IsSome}
use Rattle.apx_cause.specs.Cause.{Rose}
use Rattle.apx_history.specs.declared.Entry.{Entry}
use Rattle.apx_pass.specs.Job.{Job}
use Rattle.apx_pass.specs.Pass.{windows}
use Rattle.apx_part.specs.Fed.{plan_in}
use Rattle.apx_example.specs.Example.{example_job}
use Rattle.apx_stores.specs.Caused.{IsNoState, IsNoBlock, IsTooLarge}
use Rattle.apx_cmd.specs.declared.commands.Command.{Command}
use Rattle.apx_cmd.specs.declared.commands.Command.TheVariants.{Sim, Run, Gen, Trace}
use Rattle.apx_audit.specs.Text.{journal_text}
use Rattle.apx_cmd.specs.Commands.{command_of}
use Rattle.apx_load.specs.declared.refusal.Refusal.{Refusal}
use Rattle.apx_load.specs.declared.stop.Stop.{Stop}
use Rattle.apx_load.specs.declared.stop.Stop.TheVariants.{SpoolFailed, StateDamaged, BlockDamaged, OutputFailed}
use Rattle.apx_load.specs.First.{IsRefusal}
use Rattle.apx_load.specs.Refusals.{Reading}
use Rattle.apx_load.specs.Jobs.{IsJob}
use Rattle.apx_load.specs.Stops.{Causes, IsCaused, no_causes}
use Rattle.apx_sim.specs.Headline.{StoresEachOnce, KeepsNeeded, EndsWhole, HasCheckpoints, left_by}
use Rattle.apx_top.specs.declared.ended.History.{History}
use Rattle.apx_top.specs.declared.ended.History.TheVariants.{Nothing, Core}
use Rattle.apx_top.specs.declared.ended.Shown.{Shown}
use Rattle.apx_top.specs.declared.ended.Shown.TheVariants.{State, Block}
use Rattle.apx_top.specs.Changes.{DevicesChange, OutputChange, held_tell, all_tell}
use Rattle.apx_top.specs.Left.{Left}
use Rattle.apx_top.specs.Lines.{status_of}
use Rattle.apx_top.specs.Plain.{IsSim}
use Rattle.apx_top.specs.Way.{Way, in_order, by_workers, IsHistoryBy}
use Rattle.apx_top.specs.Run.{run_text, report_text, HasBegun, IsOfPass, GotText, GotAll, IsUnprinted, printing_causes}

-- ---- the run that words and files ask for

-- the command runs this job in this way
abbrev pub RunsJob : Reading → Command → Job → Way → Type 0
RunsJob reading (Sim app script settings order) job way = IsJob reading app script settings job × (way ≡ in_order order)
RunsJob reading (Run app script settings threads) job way = IsJob reading app script settings job × (way ≡ by_workers threads)
RunsJob reading (Gen number size) job way = (job ≡ example_job number size) × (way ≡ in_order number)
RunsJob reading (Trace app script settings order) job way = IsJob reading app script settings job × (way ≡ in_order order)
RunsJob reading _ job way = ⊥

-- the words are a command that runs this job in this way
pub record IsRun (reading : Reading) (words : List (List ℕ)) (job : Job) (way : Way) : Type 0 where
  -- the command
  pub command : Command
  -- the words are this command
  pub words_are : command_of words ≡ Some command
  -- it runs the job in the way
  pub runs : RunsJob reading command job way

-- of whatever run was asked for and happened, P holds
abbrev pub OfRun : Reading → List (List ℕ) → History → (Job → Way → List Entry → Type 0) → Type 0
OfRun reading words journal P =
    (job : Job) (way : Way) (es : List Entry) → IsRun reading words job way → journal ≡ Core es → P job way es

-- ---- one history

-- What happened is one history of the job, in the order that the number picks or by the workers. Nothing happened where something is
-- refused, and over a store that has more windows than the job; then, and wherever nothing happened, both stores are what they were.
pub record IsOneHistory {F : Type 0} (reading : Reading) (words : List (List ℕ)) (left : Left F) (devices : DevicesChange) : Type 0 where
  -- what happened
  pub history : OfRun reading words left.journal (λ job way es. IsHistoryBy job way devices.store.last_before es)
  -- it is of a run that was asked for, over a store with no more windows than the job
  pub asked : (es : List Entry) → left.journal ≡ Core es →
      (job : Job) × (way : Way) × IsRun reading words job way × (devices.store.last_before ≤ windows job.flow)
  -- nothing happened where something is refused first
  pub refused : (refusal : Refusal) → IsRefusal reading words refusal → left.journal ≡ Nothing
  -- nor with a status from 1 to 7
  pub unread : (stop : Stop) → left.end ≡ Err stop → status_of stop ≤ 7 → left.journal ≡ Nothing
  -- where nothing happened both stores are what they were
  pub same : left.journal ≡ Nothing → devices.stores_same

-- ---- the store

-- The sink's store has exactly the rows of the one pass, each window once.
abbrev pub HasStored : Reading → List (List ℕ) → History → DevicesChange → Type 0
HasStored reading words journal devices =
    OfRun reading words journal (λ job way es. HasBegun job devices →
    StoresEachOnce job devices.store.last_before (all_tell devices) es devices.store.after)

-- ---- purging

-- No block of a window that may still be read was dropped.
abbrev pub HasKeptNeeded : Reading → List (List ℕ) → History → DevicesChange → Type 0
HasKeptNeeded reading words journal devices = OfRun reading words journal (λ job way es. KeepsNeeded job devices.store.last_before es)

-- ---- the end

-- what a command prints on the output
abbrev pub text_of : Command → Job → List Entry → List ℕ
text_of (Gen number size) job es = report_text job es
text_of (Trace app script settings order) job es = journal_text es
text_of command job es = run_text job

-- What a run with status 0 has printed: `sim` and `run` the rows on the output and the report on the error output, `trace` the journal
-- in place of the rows, and `gen` the report on the output.
abbrev pub IsAllPrinted : Command → Job → List Entry → (output errors : OutputChange) → Type 0
IsAllPrinted (Gen number size) job es output errors = GotAll (report_text job es) output
IsAllPrinted (Trace app script settings order) job es output errors = GotAll (journal_text es) output × GotAll (report_text job es) errors
IsAllPrinted command job es output errors = GotAll (run_text job) output × GotAll (report_text job es) errors

-- A run with status 0 has stored every window, met each line of the script once, and printed all.
pub record IsWholeRun (F : Type 0) (command : Command) (job : Job) (es : List Entry)
    (devices : DevicesChange) (output errors : OutputChange) : Type 0 where
  -- its journal ends with End, every window is stored, and each line of the script was met once
  pub ended : EndsWhole {F = F} job devices.store.last_before es None
  -- all is printed
  pub printed : IsOfPass job devices → IsAllPrinted command job es output errors

-- With status 0 a run that was asked for has happened, and is whole.
abbrev pub HasEndedWhole : {F : Type 0} → Reading → List (List ℕ) → Left F → DevicesChange → (output errors : OutputChange) → Type 0
HasEndedWhole {F} reading words left devices output errors =
    left.end ≡ Ok tt → (job : Job) (way : Way) (run : IsRun reading words job way) →
    (es : List Entry) × (left.journal ≡ Core es) × IsWholeRun F run.command job es devices output errors

-- ---- the checkpoints

-- With status 0 the checkpoint store has the last checkpoints.
abbrev pub HasLeftCheckpoints : {F : Type 0} → Reading → List (List ℕ) → Left F → DevicesChange → Type 0
HasLeftCheckpoints {F} reading words left devices =
    left.end ≡ Ok tt → OfRun reading words left.journal (λ job way es.
    HasCheckpoints {F = F} job (held_tell devices) devices.vault.tells None devices.vault.before devices.vault.after)

-- ---- the causes

-- bytes that the checkpoint store gave, and that spell no state, are shown
abbrev pub IsStateShown : Bool → Option Shown → Type 0
IsStateShown tells (Some (State id bytes)) = IsNoState tells bytes.items
IsStateShown tells _ = ⊥

-- bytes that a spool gave, and that spell no block of their place in a list of the job, are shown
abbrev pub IsBlockShown : Job → Bool → Option Shown → Type 0
IsBlockShown job tells (Some (Block op part number window index last bytes)) =
    IsNoBlock tells (plan_in job) (record { window = window; index = index; last = last; bytes = bytes.items })
IsBlockShown job tells _ = ⊥

-- they are of the job that was asked for
pub record IsBlockOfRun (reading : Reading) (words : List (List ℕ)) (tells : Bool) (shown : Option Shown) : Type 0 where
  -- the job
  pub job : Job
  -- the way
  pub way : Way
  -- it was asked for
  pub run : IsRun reading words job way
  -- the bytes
  pub block : IsBlockShown job tells shown

-- what a run computes is too large
pub record IsLargeJob (reading : Reading) (words : List (List ℕ)) (told : Bool) : Type 0 where
  -- the job
  pub job : Job
  -- the way
  pub way : Way
  -- it was asked for
  pub run : IsRun reading words job way
  -- its dataflow is too large, where the checkpoint store and the spools tell
  pub large : IsTooLarge job.flow told

-- when a run that began may stop, and for which cause
abbrev pub running_causes : {F : Type 0} → Reading → List (List ℕ) → Left F → DevicesChange → (output : Type 0) → Causes
running_causes reading words left devices output = record no_causes {
  vault = Rose devices.before.vault devices.now.vault;
  store = Rose devices.before.keeper devices.now.keeper;
  spool = IsSome left.spool ⊎ Rose devices.before.spools devices.now.spools;
  state = IsStateShown devices.vault.tells left.shown;
  block = IsBlockOfRun reading words devices.spools_tell left.shown;
  output = output;
  large = IsLargeJob reading words (held_tell devices);
}

-- Each stop of a run has its cause: what its status says of the devices is so, and the bytes or the spool's fault are handed out.
-- A run that stopped has printed nothing, unless it had come to its end and stopped while printing; then it has printed a front.
pub record HasNamedCause {F : Type 0} (reading : Reading) (words : List (List ℕ)) (left : Left F)
    (devices : DevicesChange) (output errors : OutputChange) : Type 0 where
  -- a run that began has a cause where it stopped
  pub cause : (stop : Stop) → left.end ≡ Err stop → OfRun reading words left.journal (λ job way es.
      IsCaused (running_causes reading words left devices (output.rose ⊎ errors.rose)) stop)
  -- its history tells the fault's status, unless it had come to its end and stopped while printing
  pub status : (stop : Stop) → left.end ≡ Err stop → OfRun reading words left.journal (λ job way es.
      ((left_by job devices.store.last_before es).fault ≡ Some (status_of stop)) × IsUnprinted output
      ⊎ EndsWhole {F = F} job devices.store.last_before es None
      × IsCaused (printing_causes (Rose devices.before.keeper devices.now.keeper) (output.rose ⊎ errors.rose)) stop)
  -- a front of its text is printed
  pub front : (stop : Stop) → left.end ≡ Err stop → (job : Job) (way : Way) (run : IsRun reading words job way) (es : List Entry) →
      left.journal ≡ Core es → IsOfPass job devices → GotText (text_of run.command job es) output
  -- and of the report of `sim`, `run` and `trace`, where an output failed
  pub report : left.end ≡ Err OutputFailed → (job : Job) (way : Way) (run : IsRun reading words job way) (es : List Entry) →
      left.journal ≡ Core es → IsSim (Some run.command) → IsOfPass job devices → GotText (report_text job es) errors
  -- nothing else is shown
  pub shown : IsSome left.shown → (left.end ≡ Err StateDamaged) ⊎ (left.end ≡ Err BlockDamaged)
  -- and no other fault of a spool is handed out
  pub spool : IsSome left.spool → left.end ≡ Err SpoolFailed
