-- What is accepted and refused by one reading is so by another that has all of its answers.
use Rattle.std.proofs.Common.{ℕ, inl, inr, List, [], ◌∷◌, ◌++◌, Option, Some, None}
use Rattle.std.specs.Prelude.{Result}
use Rattle.apx_device.specs.declared.folder.ReadRefusal.{ReadRefusal}
use Rattle.apx_device.specs.Folder.{Answer, AreTold}
use Rattle.apx_device.proofs.Hearing.{Gave-first, Gave-second, Gave-told}
use Rattle.apx_history.specs.declared.Entry.{Entry}
use Rattle.apx_pass.specs.Graph.{Role, Input, Inner, Sink, Node}
use Rattle.apx_pass.specs.Groups as groups
use Rattle.apx_pass.specs.Pass.{Dataflow}
use Rattle.apx_pass.specs.Script.{Line}
use Rattle.apx_script.specs.declared.settings.Settings.{Settings}
use Rattle.apx_cmd.specs.declared.commands.Command.{Command}
use Rattle.apx_cmd.specs.declared.commands.Command.TheVariants.{Check, Plan, Mean, Sim, Run, Gen, Trace, Audit}
use Rattle.apx_pass.specs.Job.{Job}
use Rattle.apx_load.specs.declared.refusal.Refusal.{Refusal}
use Rattle.apx_load.specs.declared.refusal.Refusal.TheVariants.{NoFile, FileTooLong}
use Rattle.apx_load.specs.Refusals.{Reading, by_files, by_answers, IsFileRefusal, IsApplication, IsApplicationRefusal, IsInputOf, IsInputRefusal, AreRead, AreInputs, IsInputsRefusal, IsAcceptedRun, IsRunRefusal}
use Rattle.apx_load.specs.Jobs.{IsScript, IsScriptRefusal, IsScripted, IsScriptedRefusal, IsJob, IsJobRefusal}
use Rattle.apx_load.specs.Audits.{IsLegalFile, IsJournalRefusal, IsAudited, IsLegal, IsAuditRefusal}
use Rattle.apx_load.specs.First.{IsAcceptedBy, IsRefusedBy, AreAccepted, IsRefusal, of_words, of_files}

-- each answer of the one reading is one of the other
abbrev pub IsOf : Reading → Reading → Type 0
IsOf R S = (name : List ℕ) (limit : ℕ) (gave : Result (List ℕ) ReadRefusal) → R name limit gave → S name limit gave

-- ---- by more answers, and by the files that are told

pub by-first : (first second : List Answer) → IsOf (by_answers first) (by_answers (first ++ second))
by-first first second name limit gave is = (Gave-first name limit gave first second is.0, is.1)

pub by-second : (first second : List Answer) → IsOf (by_answers second) (by_answers (first ++ second))
by-second first second name limit gave is = (Gave-second name limit gave first second is.0, is.1)

pub by-told : (told : List ℕ → Option (List ℕ)) (answers : List Answer) → AreTold told answers → IsOf (by_answers answers) (by_files told)
by-told told answers are name limit gave is = (Gave-told name limit gave told answers are is.0, is.1)

-- ---- what is said of a reading

module _ (R S : Reading) (of : IsOf R S) where
  file_refusal : (name : List ℕ) (limit : ℕ) (r : Refusal) → IsFileRefusal R name limit r → IsFileRefusal S name limit r
  file_refusal name limit (NoFile file) is = (is.0, of name limit _ is.1)
  file_refusal name limit (FileTooLong file) is = (is.0, of name limit _ is.1)
  file_refusal name limit _ is = absurd is

  pub of-file-refusal : (name : List ℕ) (limit : ℕ) (r : Refusal) → IsFileRefusal R name limit r → IsFileRefusal S name limit r
  of-file-refusal = file_refusal

  pub of-application : (name : List ℕ) (nodes : List Node) → IsApplication R name nodes → IsApplication S name nodes
  of-application name nodes is = record { text = is.text; file = of name _ _ is.file; app = is.app }

  pub of-application-refusal : (name : List ℕ) (r : Refusal) → IsApplicationRefusal R name r → IsApplicationRefusal S name r
  of-application-refusal name r (inl file) = inl (file_refusal name _ r file)
  of-application-refusal name r (inr text) = inr (text.0, of name _ _ text.1, text.2)

  pub of-input : (role : Role) (input : Option groups.Input) → IsInputOf R role input → IsInputOf S role input
  of-input (Input kind file per_window) input is = (is.0, record { is_file = of file _ _ is.1.is_file; accepted = is.1.accepted }, is.2)
  of-input (Inner kind) input is = is
  of-input Sink input is = is

  pub of-input-refusal : (role : Role) (r : Refusal) → IsInputRefusal R role r → IsInputRefusal S role r
  of-input-refusal (Input kind file per_window) r (inl refused) = inl (file_refusal file _ r refused)
  of-input-refusal (Input kind file per_window) r (inr text) = inr (text.0, of file _ _ text.1, text.2)
  of-input-refusal (Inner kind) r is = absurd is
  of-input-refusal Sink r is = absurd is

  read_all : (nodes : List Node) (each : List (Option groups.Input)) → AreRead R nodes each → AreRead S nodes each
  read_all [] [] is = is
  read_all [] (input ∷ each) is = absurd is
  read_all (node ∷ nodes) [] is = absurd is
  read_all (node ∷ nodes) (input ∷ each) is = (of-input node.role input is.0, read_all nodes each is.1)

  pub of-inputs : (nodes : List Node) (inputs : List groups.Input) → AreInputs R nodes inputs → AreInputs S nodes inputs
  of-inputs nodes inputs is = record { each = is.each; read = read_all nodes is.each is.read; are = is.are }

  pub of-inputs-refusal : (nodes : List Node) (r : Refusal) → IsInputsRefusal R nodes r → IsInputsRefusal S nodes r
  of-inputs-refusal [] r is = absurd is
  of-inputs-refusal (node ∷ nodes) r (inl here) = inl (of-input-refusal node.role r here)
  of-inputs-refusal (node ∷ nodes) r (inr there) = inr ((there.0.0, of-input node.role there.0.0 there.0.1), of-inputs-refusal nodes r there.1)

  pub of-run : (name : List ℕ) (flow : Dataflow) → IsAcceptedRun R name flow → IsAcceptedRun S name flow
  of-run name flow is = record { application = of-application name flow.nodes is.application; inputs = of-inputs flow.nodes flow.inputs is.inputs }

  pub of-run-refusal : (name : List ℕ) (r : Refusal) → IsRunRefusal R name r → IsRunRefusal S name r
  of-run-refusal name r (inl application) = inl (of-application-refusal name r application)
  of-run-refusal name r (inr inputs) = inr (inputs.0, of-application name inputs.0 inputs.1, of-inputs-refusal inputs.0 r inputs.2)

  pub of-script : (name : Option (List ℕ)) (lines : List Line) → IsScript R name lines → IsScript S name lines
  of-script None lines is = is
  of-script (Some name) lines is = (is.0, of name _ _ is.1, is.2)

  pub of-script-refusal : (name : Option (List ℕ)) (r : Refusal) → IsScriptRefusal R name r → IsScriptRefusal S name r
  of-script-refusal None r is = absurd is
  of-script-refusal (Some name) r (inl file) = inl (file_refusal name _ r file)
  of-script-refusal (Some name) r (inr text) = inr (text.0, of name _ _ text.1, text.2)

  pub of-scripted : (flow : Dataflow) (script : Option (List ℕ)) (settings : Settings) (job : Job) → IsScripted R flow script settings job → IsScripted S flow script settings job
  of-scripted flow script settings job is = record { lines = is.lines; read = of-script script is.lines is.read; judged = is.judged; is = is.is }

  pub of-scripted-refusal : (flow : Dataflow) (script : Option (List ℕ)) (settings : Settings) (r : Refusal) → IsScriptedRefusal R flow script settings r → IsScriptedRefusal S flow script settings r
  of-scripted-refusal flow script settings r (inl own) = inl (of-script-refusal script r own)
  of-scripted-refusal flow script settings r (inr line) = inr (line.0, of-script script line.0 line.1, line.2)

  pub of-job : (name : List ℕ) (script : Option (List ℕ)) (settings : Settings) (job : Job) → IsJob R name script settings job → IsJob S name script settings job
  of-job name script settings job is = (is.0, of-run name is.0 is.1, of-scripted is.0 script settings job is.2)

  pub of-job-refusal : (name : List ℕ) (script : Option (List ℕ)) (settings : Settings) (r : Refusal) → IsJobRefusal R name script settings r → IsJobRefusal S name script settings r
  of-job-refusal name script settings r (inl run) = inl (of-run-refusal name r run)
  of-job-refusal name script settings r (inr own) = inr (own.0, of-run name own.0 own.1, of-scripted-refusal own.0 script settings r own.2)

  pub of-legal-file : (name : List ℕ) (job : Job) (es : List Entry) → IsLegalFile R name job es → IsLegalFile S name job es
  of-legal-file name job es is = record { text = is.text; read = of name _ _ is.read; legal = is.legal }

  pub of-journal-refusal : (name : List ℕ) (job : Job) (r : Refusal) → IsJournalRefusal R name job r → IsJournalRefusal S name job r
  of-journal-refusal name job r (inl file) = inl (file_refusal name _ r file)
  of-journal-refusal name job r (inr text) = inr (text.0, of name _ _ text.1, text.2)

  pub of-audited : (app journal : List ℕ) (script : Option (List ℕ)) (settings : Settings) (text : List ℕ) → IsAudited R app journal script settings text → IsAudited S app journal script settings text
  of-audited app journal script settings text is =
      (is.0, of-job app script settings is.0 is.1, record { read = of journal _ _ is.2.read; unrefused = is.2.unrefused })

  pub of-legal : (app journal : List ℕ) (script : Option (List ℕ)) (settings : Settings) (es : List Entry) → IsLegal R app journal script settings es → IsLegal S app journal script settings es
  of-legal app journal script settings es is = (is.0, of-job app script settings is.0 is.1, of-legal-file journal is.0 es is.2)

  pub of-audit-refusal : (app journal : List ℕ) (script : Option (List ℕ)) (settings : Settings) (r : Refusal) → IsAuditRefusal R app journal script settings r → IsAuditRefusal S app journal script settings r
  of-audit-refusal app journal script settings r (inl own) = inl (of-job-refusal app script settings r own)
  of-audit-refusal app journal script settings r (inr job) = inr (job.0, of-job app script settings job.0 job.1, of-journal-refusal journal job.0 r job.2)

  accepted_by : (command : Command) → IsAcceptedBy R command → IsAcceptedBy S command
  accepted_by (Check app) is = (is.0, of-application app is.0 is.1)
  accepted_by (Plan app) is = (is.0, of-application app is.0 is.1)
  accepted_by (Mean app base) is = (is.0, of-run app is.0 is.1)
  accepted_by (Sim app script settings order) is = (is.0, of-job app script settings is.0 is.1)
  accepted_by (Run app script settings threads) is = (is.0, of-job app script settings is.0 is.1)
  accepted_by (Gen number size) is = is
  accepted_by (Trace app script settings order) is = (is.0, of-job app script settings is.0 is.1)
  accepted_by (Audit app journal script settings) is = (is.0, of-audited app journal script settings is.0 is.1)
  accepted_by _ is = absurd is

  refused_by : (command : Command) (r : Refusal) → IsRefusedBy R command r → IsRefusedBy S command r
  refused_by (Check app) r is = of-application-refusal app r is
  refused_by (Plan app) r is = of-application-refusal app r is
  refused_by (Mean app base) r is = of-run-refusal app r is
  refused_by (Sim app script settings order) r is = of-job-refusal app script settings r is
  refused_by (Run app script settings threads) r is = of-job-refusal app script settings r is
  refused_by (Gen number size) r is = absurd is
  refused_by (Trace app script settings order) r is = of-job-refusal app script settings r is
  refused_by (Audit app journal script settings) r is = of-audit-refusal app journal script settings r is
  refused_by _ r is = is

  pub of-accepted : (words : List (List ℕ)) → AreAccepted R words → AreAccepted S words
  of-accepted words is = record { command = is.command; words_are = is.words_are; files = accepted_by is.command is.files }

  pub of-refusal : (words : List (List ℕ)) (r : Refusal) → IsRefusal R words r → IsRefusal S words r
  of-refusal words r (of_words none) = of_words none
  of-refusal words r (of_files command refusal are is) = of_files command refusal are (refused_by command refusal is)
