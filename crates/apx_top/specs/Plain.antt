-- How the program ends, by its words and by what its folder answered.
use Rattle.std.specs.Prelude.{◌≡◌, ℕ, ◌⊎◌, Bool, true, IsTrue, List, [], ◌++◌, length, Option, Some, None, is_some, Result, Ok, Err, codes, ⊤}
use Rattle.apx_history.specs.declared.Entry.{Entry}
use Rattle.apx_device.specs.Folder.{Answer}
use Rattle.apx_device.specs.Out.{GotFront}
use Rattle.apx_pass.specs.Graph.{Node}
use Rattle.apx_pass.specs.Large.{IsLargeDataflow}
use Rattle.apx_pass.specs.Pass.{Dataflow}
use Rattle.apx_load.specs.declared.stop.Stop.{Stop}
use Rattle.apx_load.specs.declared.stop.Stop.TheVariants.{Refused, OutputFailed, Memory}
use Rattle.apx_load.specs.declared.refusal.Refusal.{Refusal}
use Rattle.apx_load.specs.declared.refusal.Refusal.TheVariants.{NotACommand, NotBuilt}
use Rattle.apx_cmd.specs.declared.commands.Command.{Command}
use Rattle.apx_cmd.specs.declared.commands.Command.TheVariants.{Check, Plan, Mean, Sim, Run, Gen, Trace, Audit}
use Rattle.apx_cmd.specs.Commands.{command_of}
use Rattle.apx_pass.specs.Job.{Job}
use Rattle.apx_script.specs.declared.settings.Settings.{Settings}
use Rattle.apx_plan.specs.Plan.{plan_text}
use Rattle.apx_load.specs.Refusals.{Reading, by_answers, IsApplication, IsApplicationRefusal, IsAcceptedRun, IsRunRefusal}
use Rattle.apx_load.specs.Jobs.{IsJob, IsJobRefusal}
use Rattle.apx_load.specs.Audits.{IsLegal, IsAuditRefusal}
use Rattle.apx_load.specs.Stops.{Causes, IsCaused, no_causes, reading_causes}
use Rattle.apx_top.specs.Audits.{legal_text}
use Rattle.apx_cause.specs.Cause.{Rose}
use Rattle.apx_example.specs.Example.{example_job}
use Rattle.apx_stores.specs.Caused.{IsTooLarge}
use Rattle.apx_top.specs.Changes.{DevicesChange, OutputChange, Call, AreUntouched}
use Rattle.apx_top.specs.Lines.{status_of, line_of}
use Rattle.apx_top.specs.Left.{Left, without_run}
use Rattle.apx_top.specs.Run.{mean_text, HasRun, HasPrinted, HasReported, IsUnprinted}
use Rattle.apx_top.specs.Trace.{HasTraced}
use Rattle.apx_top.specs.Way.{Way, in_order, by_workers}

-- ---- telling something of files

-- What a command tells of its files: what they are where they are accepted, what is refused of them first, what of it is
-- too large, and the text of what they are.
pub record Telling (X : Type 0) : Type 1 where
  -- the files are accepted, and this is what they are
  pub accepted : X → Type 0
  -- this is refused of them first
  pub refused : Refusal → Type 0
  -- this is too large to be told
  pub large : X → Type 0
  -- the text of it
  pub text : X → List ℕ

-- something told of the application in a file
abbrev pub of_application : (List Node → List ℕ) → Reading → List ℕ → Telling (List Node)
of_application text reading name = record {
  accepted = IsApplication reading name;
  refused = IsApplicationRefusal reading name;
  large = λ nodes. ⊥;
  text = text;
}

-- the rows that the one pass gives for the application in a file and its inputs, over a base second
abbrev pub of_pass : ℕ → Reading → List ℕ → Telling Dataflow
of_pass base reading name = record {
  accepted = IsAcceptedRun reading name;
  refused = IsRunRefusal reading name;
  large = IsLargeDataflow;
  text = mean_text base;
}

-- the verdict on the journal in a file, for the job of other files and settings
abbrev pub of_journal : Reading → (app journal : List ℕ) → Option (List ℕ) → Settings → Telling (List Entry)
of_journal reading app journal script settings = record {
  accepted = IsLegal reading app journal script settings;
  refused = IsAuditRefusal reading app journal script settings;
  large = λ es. ⊥;
  text = legal_text;
}

-- what stops it: a refusal of its files and a file that can't be read; and once they are accepted a size, and an output that
-- failed
abbrev pub telling_causes : {X : Type 0} → Telling X → List Answer → (folder output : Type 0) → Causes
telling_causes {X} telling answers folder output =
    record (reading_causes telling.refused answers folder) {
      output = output × ((told : X) × telling.accepted told);
      large = (told : X) × telling.accepted told × telling.large told;
    }

-- what a stop leaves of an output: a front of the text where the output failed, and else nothing
abbrev pub LeavesOf : {X : Type 0} → Telling X → OutputChange → Stop → Type 0
LeavesOf {X} telling output OutputFailed =
    IsTrue output.tells → (told : X) × telling.accepted told × GotFront (telling.text told) output.before output.after
LeavesOf telling output _ = output.after ≡ output.before

-- How telling something of files ends: they are accepted and the output got the text, or it stopped and left no more than its
-- stop says.
abbrev pub HasToldTo : {X : Type 0} → Telling X → List Answer → Type 0 → OutputChange → Result ⊤ Stop → Type 0
HasToldTo {X} telling answers folder output (Ok _) =
    (told : X) × telling.accepted told × (IsTrue output.tells → output.after ≡ output.before ++ telling.text told)
HasToldTo telling answers folder output (Err stop) =
    IsCaused (telling_causes telling answers folder output.rose) stop × LeavesOf telling output stop

-- what is told of an application that is judged
abbrev pub ok_text : List Node → List ℕ
ok_text nodes = codes "ok\n"

-- ---- all commands

-- it ended with this stop, without a read, and touched nothing
pub record HasStayed {F : Type 0} (call : Call) (left : Left F) (stop : Stop) : Type 0 where
  -- it stopped so
  pub is : left ≡ without_run (Err stop)
  -- nothing was read
  pub unread : call.answers ≡ []
  -- the devices are, as values, those that they were
  pub same : AreUntouched call.devices
  -- nothing was printed
  pub unprinted : IsUnprinted call.output

-- the devices weren't touched, and this was told
pub record HasTold {X F : Type 0} (telling : Telling X) (call : Call) (left : Left F) : Type 0 where
  -- how it ended
  pub end : Result ⊤ Stop
  -- nothing was run
  pub is : left ≡ without_run end
  -- the devices are, as values, those that they were
  pub same : AreUntouched call.devices
  -- this was told
  pub told : HasToldTo telling call.answers call.folder call.output end

-- one file was read, and this was told of the application in it
pub record HasJudged {F : Type 0} (text : List Node → List ℕ) (name : List ℕ) (call : Call) (left : Left F) : Type 0 where
  -- one file was read
  pub one : length call.answers ≡ 1
  -- it was told
  pub judged : HasTold (of_application text (by_answers call.answers) name) call left

-- what stops reading the files of a run: what is refused of them, and a file that can't be read
abbrev pub job_causes : List ℕ → Option (List ℕ) → Settings → Call → Causes
job_causes app script settings call = reading_causes (IsJobRefusal (by_answers call.answers) app script settings) call.answers call.folder

-- how the run of a job ends for `sim` and `run`
abbrev pub RanAndPrinted : {F : Type 0} → Job → Way → Call → Left F → Type 0
RanAndPrinted job way call left =
    HasRun (IsUnprinted call.output) (λ es end. HasPrinted job es call.devices call.output call.errors end) job way call.devices left

-- how it ends for `trace`
abbrev pub RanAndTraced : {F : Type 0} → Job → Way → Call → Left F → Type 0
RanAndTraced job way call left =
    HasRun (IsUnprinted call.output) (λ es end. HasTraced job es call.devices call.output call.errors end) job way call.devices left

-- How a command ends that runs a job of files: it stopped at its files, and touched nothing; or it ran their job, as R says.
pub data HasRunFiles {F : Type 0} (R : Job → Type 0) (app : List ℕ) (script : Option (List ℕ)) (settings : Settings)
    (call : Call) (left : Left F) : Type 0 where
  stopped_reading :
      (stop : Stop) → left ≡ without_run (Err stop) →
      IsCaused (job_causes app script settings call) stop →
      AreUntouched call.devices → IsUnprinted call.output →
      HasRunFiles R app script settings call left
  ran :
      (job : Job) → IsJob (by_answers call.answers) app script settings job → R job →
      HasRunFiles R app script settings call left

-- so it is with `sim` and `run`
abbrev pub HasPrintedFiles : {F : Type 0} → List ℕ → Option (List ℕ) → Settings → Way → Call → Left F → Type 0
HasPrintedFiles app script settings way call left = HasRunFiles (λ job. RanAndPrinted job way call left) app script settings call left

-- and with `trace`
abbrev pub HasTracedFiles : {F : Type 0} → List ℕ → Option (List ℕ) → Settings → ℕ → Call → Left F → Type 0
HasTracedFiles app script settings order call left =
    HasRunFiles (λ job. RanAndTraced job (in_order order) call left) app script settings call left

-- How the run of an example ends: there was no memory to make its files, or their job was run.
pub data HasMade {F : Type 0} (number size : ℕ) (devices : DevicesChange) (output : OutputChange) (left : Left F) : Type 0 where
  unmade :
      left ≡ without_run (Err Memory) → AreUntouched devices → IsUnprinted output →
      HasMade number size devices output left
  made :
      HasRun (IsUnprinted output) (λ es end. HasReported (example_job number size) es devices output end)
      (example_job number size) (in_order number) devices left →
      HasMade number size devices output left

-- How `gen` ends. It reads none of the folder.
pub record HasGenerated {F : Type 0} (number size : ℕ) (call : Call) (left : Left F) : Type 0 where
  -- nothing was read
  pub unread : call.answers ≡ []
  -- how its run ended
  pub generated : HasMade number size call.devices call.output left

-- How a command ends: `check` and `plan` tell something of an application, `mean` the rows of the one pass, `audit` of a journal,
-- `sim`, `run`, `gen` and `trace` run a job, and the other isn't built yet.
abbrev pub HasPerformed : {F : Type 0} → Command → Call → Left F → Type 0
HasPerformed (Check app) call left = HasJudged ok_text app call left
HasPerformed (Plan app) call left = HasJudged plan_text app call left
HasPerformed (Mean app base) call left = HasTold (of_pass base (by_answers call.answers) app) call left
HasPerformed (Sim app script settings order) call left = HasPrintedFiles app script settings (in_order order) call left
HasPerformed (Run app script settings threads) call left = HasPrintedFiles app script settings (by_workers threads) call left
HasPerformed (Gen number size) call left = HasGenerated number size call left
HasPerformed (Trace app script settings order) call left = HasTracedFiles app script settings order call left
HasPerformed (Audit app journal script settings) call left =
    HasTold (of_journal (by_answers call.answers) app journal script settings) call left
HasPerformed _ call left = HasStayed call left (Refused NotBuilt)

-- How the program ends: the words are no command, or there was no memory to read them, and nothing is read or touched; or
-- their command was performed.
pub data HasEnded {F : Type 0} (words : List (List ℕ)) (call : Call) (left : Left F) : Type 0 where
  no_command : command_of words ≡ None → HasStayed call left (Refused NotACommand) → HasEnded words call left
  unread : is_some (command_of words) ≡ true → HasStayed call left Memory → HasEnded words call left
  performed : (command : Command) → command_of words ≡ Some command → HasPerformed command call left → HasEnded words call left

-- ---- what is said of files that the folder tells

-- how it ends where this is refused: with that, with a fault of the folder, or for want of memory
abbrev pub HasRefused : Type 0 → Refusal → Result ⊤ Stop → Type 0
HasRefused folder refusal (Ok _) = ⊥
HasRefused folder refusal (Err stop) =
    IsCaused (record no_causes { refuses = λ found. found ≡ refusal; unread = λ name. folder }) stop

-- What a command computes of files that are accepted is too large: by the one pass, or in a run, where the checkpoint store and the
-- spools tell.
abbrev pub IsLargeBy : Reading → Command → Bool → Type 0
IsLargeBy reading (Mean app base) told = (flow : Dataflow) × IsAcceptedRun reading app flow × IsLargeDataflow flow
IsLargeBy reading (Sim app script settings order) told =
    (job : Job) × IsJob reading app script settings job × IsTooLarge job.flow told
IsLargeBy reading (Run app script settings threads) told =
    (job : Job) × IsJob reading app script settings job × IsTooLarge job.flow told
IsLargeBy reading (Gen number size) told = IsTooLarge (example_job number size).flow told
IsLargeBy reading (Trace app script settings order) told =
    (job : Job) × IsJob reading app script settings job × IsTooLarge job.flow told
IsLargeBy reading _ told = ⊥

-- the words are those of a command that computes what is too large
pub record IsLargeRun (reading : Reading) (words : List (List ℕ)) (told : Bool) : Type 0 where
  -- the command
  pub command : Command
  -- the words are this command
  pub words_are : command_of words ≡ Some command
  -- what it computes is too large
  pub large : IsLargeBy reading command told

-- no device failed: no count rose, and no spool handed out a fault
pub record HasNoFault {F : Type 0} (folder : Type 0) (devices : DevicesChange) (output errors : OutputChange) (left : Left F) : Type 0 where
  -- the folder
  pub folder_kept : folder → ⊥
  -- the sink's store
  pub keeper_kept : Rose devices.before.keeper devices.now.keeper → ⊥
  -- the checkpoint store
  pub vault_kept : Rose devices.before.vault devices.now.vault → ⊥
  -- the maker of spools
  pub spools_kept : Rose devices.before.spools devices.now.spools → ⊥
  -- a spool
  pub spool_kept : left.spool ≡ None
  -- the output
  pub output_kept : output.rose → ⊥
  -- the error output
  pub errors_kept : errors.rose → ⊥

-- how it ends where words and files are accepted and no device fails: it is done, too large, or short of memory
abbrev pub IsComplete : Type 0 → Result ⊤ Stop → Type 0
IsComplete large (Ok _) = ⊤
IsComplete large (Err stop) = IsCaused (record no_causes { large = large }) stop

-- ---- the status and the line that says why

-- the exit status, 0 where nothing stopped
abbrev pub status_after : Result ⊤ Stop → ℕ
status_after (Ok _) = 0
status_after (Err stop) = status_of stop

-- the line that says why, empty where nothing stopped
abbrev pub line_after : Result ⊤ Stop → List ℕ
line_after (Ok _) = []
line_after (Err stop) = line_of stop

-- the words are those of a run by worker threads
abbrev pub IsThreaded : Option Command → Type 0
IsThreaded (Some (Run app script settings threads)) = ⊤
IsThreaded _ = ⊥

-- the words are those of a command that prints a report on the error output: `sim`, `run` or `trace`
abbrev pub IsSim : Option Command → Type 0
IsSim (Some (Sim app script settings order)) = ⊤
IsSim (Some (Run app script settings threads)) = ⊤
IsSim (Some (Trace app script settings order)) = ⊤
IsSim _ = ⊥

-- it stopped with a stop that has a line: nothing was printed on the error output before that
abbrev pub IsTold : Result ⊤ Stop → Type 0
IsTold (Ok _) = ⊥
IsTold (Err OutputFailed) = ⊥
IsTold (Err _) = ⊤

-- What the error output has got behind what a run printed there: the line, or a front of it where its count rose.
pub record HasSaid (line : List ℕ) (rose : Type 0) (before now : List ℕ) : Type 0 where
  -- it has got no more than a front of the line
  pub front : GotFront line before now
  -- it has got the whole line, unless its count rose
  pub whole : rose ⊎ (now ≡ before ++ line)
