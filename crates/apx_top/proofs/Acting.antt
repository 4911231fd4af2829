-- What the end of a command says of words and files.
use Rattle.std.proofs.Common.{◌≡◌, ℕ, ◌⊎◌, inl, inr, List, [], ◌∷◌, ◌++◌, Bool, true, refl, sym, ap, ◌∙◌, subst, IsTrue}
use Rattle.std.specs.Prelude.{Result, Ok, Err, ⊤, Option, Some, None, IsSome, is_some}
use Rattle.apx_device.specs.Folder.{Answer, AreTold}
use Rattle.apx_device.specs.Out.{GotFront}
use Rattle.apx_pass.specs.Pass.{Dataflow}
use Rattle.apx_pass.specs.Graph.{Role, Input, Inner, Sink, Node}
use Rattle.apx_load.specs.declared.stop.Stop.{Stop}
use Rattle.apx_load.specs.declared.stop.Stop.TheVariants.{Refused, CannotRead, VaultFailed, StoreFailed, SpoolFailed, StateDamaged, BlockDamaged, OutputFailed, Memory, Large}
use Rattle.apx_load.specs.declared.refusal.Refusal.{Refusal}
use Rattle.apx_load.specs.declared.refusal.Refusal.TheVariants.{NotACommand, NotBuilt}
use Rattle.apx_cmd.specs.declared.commands.Command.{Command}
use Rattle.apx_cmd.specs.declared.commands.Command.TheVariants.{Check, Plan, Mean, Sim, Run, Gen, Group, Trace, Audit}
use Rattle.apx_cmd.specs.declared.refusal.CommandRefusal.{CommandRefusal}
use Rattle.apx_cmd.specs.declared.refusal.CommandRefusal.TheVariants as unread_words
use Rattle.apx_cmd.specs.Answers.{Answers}
use Rattle.apx_cmd.specs.Commands.{command_of}
use Rattle.apx_script.specs.declared.settings.Settings.{Settings}
use Rattle.apx_pass.specs.Job.{Job}
use Rattle.apx_plan.specs.Plan.{plan_text}
use Rattle.apx_load.specs.Refusals.{Reading, by_answers, by_files, IsFileRefusal, IsApplication, IsApplicationRefusal, IsInputRefusal, IsInputsRefusal, IsRunRefusal}
use Rattle.apx_load.specs.Jobs.{IsScriptRefusal, IsScriptedRefusal, IsJob, IsJobRefusal}
use Rattle.apx_load.specs.Audits.{IsJournalRefusal, IsAuditRefusal}
use Rattle.apx_load.specs.First.{IsAcceptedBy, AreAccepted, IsRefusal, of_words, of_files}
use Rattle.apx_load.specs.Stops.{Causes, IsCaused, no_causes, reading_causes, stop_of_words}
use Rattle.apx_load.proofs.Auditing.{audited-of-legal}
use Rattle.apx_load.proofs.Readings.{by-told, of-accepted, of-refusal, of-run, of-job}
use Rattle.apx_load.proofs.Stopping.{caused_weaker}
use Rattle.apx_load.proofs.Unique.{refusal-unique, accepted-or-refused}
use Rattle.apx_cause.specs.Cause.{Rose}
use Rattle.apx_example.specs.Example.{example_job}
use Rattle.apx_stores.specs.Caused.{IsTooLarge}
use Rattle.apx_top.specs.declared.ended.Shown.{Shown}
use Rattle.apx_top.specs.declared.ended.Shown.TheVariants.{State, Block}
use Rattle.apx_top.specs.Headline.{IsStateShown, IsBlockShown}
use Rattle.apx_top.specs.Changes.{OutputChange, Call, AreUntouched, held_tell}
use Rattle.apx_top.specs.Left.{Left, without_run}
use Rattle.apx_top.specs.Run.{IsUnprinted, printing_causes}
use Rattle.apx_top.specs.Way.{Way, in_order, by_workers}
use Rattle.apx_top.specs.Plain.{Telling, of_application, of_pass, of_journal, telling_causes, LeavesOf, HasToldTo, ok_text, HasStayed, HasTold, HasJudged, job_causes, HasPrintedFiles, HasTracedFiles, stopped_reading, ran, HasMade, unmade, made, HasGenerated, HasPerformed, HasEnded, no_command, unread, performed, HasRefused, IsLargeBy, IsLargeRun, HasNoFault, IsComplete}
use Rattle.apx_top.proofs.Running.{run_causes, HasRunCause, run_cause}

-- what can stop a command at all: a refusal of its words and files; a file that can't be read; a fault of a device or bytes of one
-- that spell nothing, once words and files were accepted; or a dataflow that is too large
abbrev pub ending_causes : {F : Type 0} → Reading → List (List ℕ) → Call → Left F → Causes
ending_causes reading words call left = record {
  refuses = IsRefusal reading words;
  unread = λ name. call.folder;
  vault = Rose call.devices.before.vault call.devices.now.vault × AreAccepted reading words;
  store = Rose call.devices.before.keeper call.devices.now.keeper × AreAccepted reading words;
  spool = (IsSome left.spool ⊎ Rose call.devices.before.spools call.devices.now.spools) × AreAccepted reading words;
  state = (IsTrue call.devices.vault.tells → ⊥) × AreAccepted reading words;
  block = (IsTrue call.devices.spools_tell → ⊥) × AreAccepted reading words;
  output = (call.output.rose ⊎ call.errors.rose) × AreAccepted reading words;
  large = IsLargeRun reading words (held_tell call.devices);
}

-- an end without a stop is that of accepted words and files
abbrev pub HasCauseOf : {F : Type 0} → Reading → List (List ℕ) → Call → Left F → Result ⊤ Stop → Type 0
HasCauseOf reading words call left (Ok _) = AreAccepted reading words
HasCauseOf reading words call left (Err stop) = IsCaused (ending_causes reading words call left) stop

-- what is left is so
abbrev pub HasCause : {F : Type 0} → Reading → List (List ℕ) → Call → Left F → Type 0
HasCause reading words call left = HasCauseOf reading words call left left.end

-- ---- reading leaves nothing

-- a stop that isn't of an output leaves nothing of it
pub unwritten : {X : Type 0} (telling : Telling X) (output : OutputChange) (causes : Causes) (stop : Stop) → (causes.output → ⊥) → IsCaused causes stop → output.after ≡ output.before → LeavesOf telling output stop
unwritten telling output causes (Refused refusal) none is same = same
unwritten telling output causes (CannotRead name) none is same = same
unwritten telling output causes StoreFailed none is same = same
unwritten telling output causes VaultFailed none is same = same
unwritten telling output causes SpoolFailed none is same = same
unwritten telling output causes StateDamaged none is same = same
unwritten telling output causes BlockDamaged none is same = same
unwritten telling output causes OutputFailed none is same = absurd (none is)
unwritten telling output causes Memory none is same = same
unwritten telling output causes Large none is same = same

module _ {X : Type 0} (telling : Telling X) (answers : List Answer) (folder : Type 0) (output : OutputChange) where
  -- a stop of reading is one of telling
  pub telling-cause : (stop : Stop) → IsCaused (reading_causes telling.refused answers folder) stop → IsCaused (telling_causes telling answers folder output.rose) stop
  telling-cause stop is =
      caused_weaker _ _ stop (record { refuses = λ refusal r. r; unread = λ file r. r; vault = λ none. none; store = λ none. none; spool = λ none. none; state = λ none. none; block = λ none. none; output = λ none. absurd none; large = λ none. absurd none }) is

  -- it stopped at its files
  pub told-nothing : (stop : Stop) → IsCaused (reading_causes telling.refused answers folder) stop → output.after ≡ output.before → HasToldTo telling answers folder output (Err stop)
  told-nothing stop is same = (telling-cause stop is, unwritten telling output (reading_causes telling.refused answers folder) stop (λ none. none) is same)

  module _ (told : X) (accepted : telling.accepted told) where
    -- it stopped before its text was made
    pub told-large : (stop : Stop) → IsCaused (record no_causes { large = telling.large told }) stop → output.after ≡ output.before → HasToldTo telling answers folder output (Err stop)
    told-large stop is same = (
      caused_weaker _ _ stop (record { refuses = λ refusal none. absurd none; unread = λ file none. absurd none; vault = λ none. none; store = λ none. none; spool = λ none. none; state = λ none. none; block = λ none. none; output = λ none. absurd none; large = λ large. (told, accepted, large) }) is,
      unwritten telling output (record no_causes { large = telling.large told }) stop (λ none. none) is same,
    )

    -- it stopped while its text was written
    pub told-some : (text : List ℕ) → text ≡ telling.text told → output.rose → (IsTrue output.tells → GotFront text output.before output.after) → HasToldTo telling answers folder output (Err OutputFailed)
    told-some text e rose got = ((rose, (told, accepted)), (λ t. (told, accepted, subst (λ (x : List ℕ). GotFront x output.before output.after) e (got t))))

    -- it was told
    pub told-all : (text : List ℕ) → text ≡ telling.text told → (IsTrue output.tells → output.after ≡ output.before ++ text) → HasToldTo telling answers folder output (Ok tt)
    told-all text e got = (told, accepted, (λ t. got t ∙ ap (λ x. output.before ++ x) e))

-- ---- no refusal of a file is one of words

file_apart : (reading : Reading) (name : List ℕ) (limit : ℕ) → IsFileRefusal reading name limit NotACommand → ⊥
file_apart reading name limit is = is

input_apart : (reading : Reading) (role : Role) → IsInputRefusal reading role NotACommand → ⊥
input_apart reading (Input kind file per_window) (inl is) = is
input_apart reading (Input kind file per_window) (inr is) = is.2
input_apart reading (Inner kind) is = is
input_apart reading Sink is = is

inputs_apart : (reading : Reading) (nodes : List Node) → IsInputsRefusal reading nodes NotACommand → ⊥
inputs_apart reading [] is = is
inputs_apart reading (node ∷ nodes) (inl here) = input_apart reading node.role here
inputs_apart reading (node ∷ nodes) (inr there) = inputs_apart reading nodes there.1

application_apart : (reading : Reading) (name : List ℕ) → IsApplicationRefusal reading name NotACommand → ⊥
application_apart reading name (inl is) = is
application_apart reading name (inr is) = is.2

run_apart : (reading : Reading) (name : List ℕ) → IsRunRefusal reading name NotACommand → ⊥
run_apart reading name (inl is) = application_apart reading name is
run_apart reading name (inr is) = inputs_apart reading is.0 is.2

script_apart : (reading : Reading) (script : Option (List ℕ)) → IsScriptRefusal reading script NotACommand → ⊥
script_apart reading None is = is
script_apart reading (Some name) (inl is) = is
script_apart reading (Some name) (inr is) = is.2

scripted_apart : (reading : Reading) (flow : Dataflow) (script : Option (List ℕ)) (settings : Settings) → IsScriptedRefusal reading flow script settings NotACommand → ⊥
scripted_apart reading flow script settings (inl is) = script_apart reading script is
scripted_apart reading flow script settings (inr is) = is.2

job_apart : (reading : Reading) (name : List ℕ) (script : Option (List ℕ)) (settings : Settings) → IsJobRefusal reading name script settings NotACommand → ⊥
job_apart reading name script settings (inl is) = run_apart reading name is
job_apart reading name script settings (inr is) = scripted_apart reading is.0 script settings is.2

journal_apart : (reading : Reading) (name : List ℕ) (job : Job) → IsJournalRefusal reading name job NotACommand → ⊥
journal_apart reading name job (inl is) = is
journal_apart reading name job (inr is) = is.2

audit_apart : (reading : Reading) (app journal : List ℕ) (script : Option (List ℕ)) (settings : Settings) → IsAuditRefusal reading app journal script settings NotACommand → ⊥
audit_apart reading app journal script settings (inl is) = job_apart reading app script settings is
audit_apart reading app journal script settings (inr is) = journal_apart reading journal is.0 is.2

-- words aren't both none and some command
none_and_some : (command : Option Command) → command ≡ None → is_some command ≡ true → ⊥
none_and_some None none some = cc
none_and_some (Some command) none some = cc

-- ---- small steps

-- bytes of a checkpoint store that spell nothing are of one that doesn't tell
pub state_untold : (tells : Bool) (shown : Option Shown) → IsStateShown tells shown → IsTrue tells → ⊥
state_untold tells (Some (State id bytes)) is = is.untold
state_untold tells (Some (Block op part number window index last bytes)) is = absurd is
state_untold tells None is = absurd is

-- and so with those of a spool
pub block_untold : (job : Job) (tells : Bool) (shown : Option Shown) → IsBlockShown job tells shown → IsTrue tells → ⊥
block_untold job tells (Some (Block op part number window index last bytes)) is = is.untold
block_untold job tells (Some (State id bytes)) is = absurd is
block_untold job tells None is = absurd is

-- neither of two holds
neither : {A B : Type 0} → (A → ⊥) → (B → ⊥) → A ⊎ B → ⊥
neither a b (inl x) = a x
neither a b (inr y) = b y

-- no spool handed out a fault, and no count rose
no_spool : {F R : Type 0} (spool : Option F) → spool ≡ None → (R → ⊥) → IsSome spool ⊎ R → ⊥
no_spool None is none (inl some) = cc
no_spool None is none (inr rose) = none rose
no_spool (Some f) is none either = cc

-- an output's fault is one of both outputs
pub output_weaker : (store output errors : Type 0) (stop : Stop) → IsCaused (printing_causes store output) stop → IsCaused (printing_causes store (output ⊎ errors)) stop
output_weaker store output errors stop is =
    caused_weaker _ _ stop (record { refuses = λ refusal none. none; unread = λ name none. none; vault = λ none. none; store = λ rose. rose; spool = λ none. none; state = λ none. none; block = λ none. none; output = λ rose. inl rose; large = λ none. none }) is

-- ---- the end of a command

module _ (F : Type 0) (words : List (List ℕ)) (call : Call) where
  -- words that tell nothing end so
  pub unheard : (refusal : CommandRefusal) → call.answers ≡ [] → AreUntouched call.devices → IsUnprinted call.output → Answers (command_of words) (Err refusal) → HasEnded {F = F} words call (without_run (Err (stop_of_words refusal)))
  unheard unread_words.Usage none same unprinted is = no_command is (record { is = refl; unread = none; same = same; unprinted = unprinted })
  unheard unread_words.Memory none same unprinted is = unread is (record { is = refl; unread = none; same = same; unprinted = unprinted })

  -- the reading by what was heard
  abbrev heard : Reading
  heard = by_answers call.answers

  -- what ran nothing has the cause of its end
  stayed_cause : (left : Left F) (end : Result ⊤ Stop) → left ≡ without_run end → HasCauseOf {F = F} heard words call (without_run end) end → HasCause heard words call left
  stayed_cause left end is cause = subst (λ (l : Left F). HasCause heard words call l) (sym is) cause

  told_end : {X : Type 0} (telling : Telling X) (left : Left F) → ((told : X) → telling.accepted told → AreAccepted heard words) → ((r : Refusal) → telling.refused r → IsRefusal heard words r) → ((told : X) → telling.accepted told → telling.large told → IsLargeRun heard words (held_tell call.devices)) → HasTold telling call left → HasCause heard words call left
  told_end telling left accepted refused large is = stayed_cause left is.end is.is (by_end is.end is.told)
    where
      by_end : (end : Result ⊤ Stop) → HasToldTo telling call.answers call.folder call.output end → HasCauseOf {F = F} heard words call (without_run end) end
      by_end (Ok v) told = accepted told.0 told.1
      by_end (Err stop) told =
          caused_weaker (telling_causes telling call.answers call.folder call.output.rose) (ending_causes {F = F} heard words call (without_run (Err stop))) stop
          (record {
            refuses = refused;
            unread = λ file r. r.0;
            vault = λ none. absurd none;
            store = λ none. absurd none;
            spool = λ none. absurd none;
            state = λ none. absurd none;
            block = λ none. absurd none;
            output = λ o. (inl o.0, accepted o.1.0 o.1.1);
            large = λ l. large l.0 l.1 l.2;
          }) told.0

  -- an application is told
  judged_end : (text : List Node → List ℕ) (name : List ℕ) (left : Left F) → ((nodes : List Node) → IsApplication heard name nodes → AreAccepted heard words) → ((r : Refusal) → IsApplicationRefusal heard name r → IsRefusal heard words r) → HasJudged text name call left → HasCause heard words call left
  judged_end text name left accepted refused is = told_end (of_application text heard name) left accepted refused (λ nodes a none. absurd none) is.judged

  -- the rows of the one pass are told
  mean_end : (app : List ℕ) (base : ℕ) (left : Left F) → command_of words ≡ Some (Mean app base) → HasTold (of_pass base heard app) call left → HasCause heard words call left
  mean_end app base left command is =
      told_end (of_pass base heard app) left
      (λ flow a. record { command = Mean app base; words_are = command; files = (flow, a) })
      (λ r refused. of_files (Mean app base) r command refused)
      (λ flow a large. record { command = Mean app base; words_are = command; large = (flow, a, large) })
      is

  -- a legal journal is told
  audit_end : (app journal : List ℕ) (script : Option (List ℕ)) (settings : Settings) (left : Left F) → command_of words ≡ Some (Audit app journal script settings) → HasTold (of_journal heard app journal script settings) call left → HasCause heard words call left
  audit_end app journal script settings left command is =
      told_end (of_journal heard app journal script settings) left
      (λ es legal. record { command = Audit app journal script settings; words_are = command; files = audited-of-legal heard app journal script settings es legal })
      (λ r refused. of_files (Audit app journal script settings) r command refused)
      (λ es legal none. absurd none)
      is

  -- a job was run
  ran_end : (job : Job) (left : Left F) → AreAccepted heard words → (IsTooLarge job.flow (held_tell call.devices) → IsLargeRun heard words (held_tell call.devices)) → HasRunCause job call.devices (call.output.rose ⊎ call.errors.rose) left left.end → HasCause heard words call left
  ran_end job left accepted large is = by_end left.end is
    where
      by_end : (end : Result ⊤ Stop) → HasRunCause job call.devices (call.output.rose ⊎ call.errors.rose) left end → HasCauseOf heard words call left end
      by_end (Ok v) done = accepted
      by_end (Err stop) done =
          caused_weaker (run_causes job call.devices (call.output.rose ⊎ call.errors.rose) left) (ending_causes heard words call left) stop
          (record {
            refuses = λ refusal none. absurd none;
            unread = λ file none. absurd none;
            vault = λ rose. (rose, accepted);
            store = λ rose. (rose, accepted);
            spool = λ rose. (rose, accepted);
            state = λ shown. (state_untold call.devices.vault.tells left.shown shown, accepted);
            block = λ shown. (block_untold job call.devices.spools_tell left.shown shown, accepted);
            output = λ rose. (rose, accepted);
            large = large;
          }) done

  printed_end : (app : List ℕ) (script : Option (List ℕ)) (settings : Settings) (way : Way) (left : Left F) → ((r : Refusal) → IsJobRefusal heard app script settings r → IsRefusal heard words r) → ((job : Job) → IsJob heard app script settings job → AreAccepted heard words) → ((job : Job) → IsJob heard app script settings job → IsTooLarge job.flow (held_tell call.devices) → IsLargeRun heard words (held_tell call.devices)) → HasPrintedFiles app script settings way call left → HasCause heard words call left
  printed_end app script settings way left refuses accepts large (stopped_reading stop is caused same unprinted) =
      stayed_cause left (Err stop) is
      (caused_weaker (job_causes app script settings call) (ending_causes {F = F} heard words call (without_run (Err stop))) stop
      (record {
        refuses = refuses;
        unread = λ file failed. failed.0;
        vault = λ none. absurd none;
        store = λ none. absurd none;
        spool = λ none. absurd none;
        state = λ none. absurd none;
        block = λ none. absurd none;
        output = λ none. absurd none;
        large = λ none. absurd none;
      }) caused)
  printed_end app script settings way left refuses accepts large (ran job is run) =
      ran_end job left (accepts job is) (large job is)
      (run_cause _ _ job way call.devices (call.output.rose ⊎ call.errors.rose) left (λ es stop printed. printed.cause stop refl) run)

  trace_end : (app : List ℕ) (script : Option (List ℕ)) (settings : Settings) (order : ℕ) (left : Left F) → command_of words ≡ Some (Trace app script settings order) → HasTracedFiles app script settings order call left → HasCause heard words call left
  trace_end app script settings order left command (stopped_reading stop is caused same unprinted) =
      stayed_cause left (Err stop) is
      (caused_weaker (job_causes app script settings call) (ending_causes {F = F} heard words call (without_run (Err stop))) stop
      (record {
        refuses = λ r refused. of_files (Trace app script settings order) r command refused;
        unread = λ file failed. failed.0;
        vault = λ none. absurd none;
        store = λ none. absurd none;
        spool = λ none. absurd none;
        state = λ none. absurd none;
        block = λ none. absurd none;
        output = λ none. absurd none;
        large = λ none. absurd none;
      }) caused)
  trace_end app script settings order left command (ran job is run) =
      ran_end job left
      (record { command = Trace app script settings order; words_are = command; files = (job, is) })
      (λ large. record { command = Trace app script settings order; words_are = command; large = (job, is, large) })
      (run_cause _ _ job (in_order order) call.devices (call.output.rose ⊎ call.errors.rose) left (λ es stop printed. printed.cause stop refl) run)

  gen_end : (number size : ℕ) (left : Left F) → command_of words ≡ Some (Gen number size) → HasGenerated number size call left → HasCause heard words call left
  gen_end number size left command done = by_made done.generated
    where
      by_made : HasMade number size call.devices call.output left → HasCause heard words call left
      by_made (unmade is same unprinted) = stayed_cause left (Err Memory) is tt
      by_made (made run) =
          ran_end (example_job number size) left
          (record { command = Gen number size; words_are = command; files = tt })
          (λ large. record { command = Gen number size; words_are = command; large = large })
          (run_cause _ _ (example_job number size) (in_order number) call.devices (call.output.rose ⊎ call.errors.rose) left (λ es stop printed. output_weaker _ _ _ stop (printed.cause stop refl)) run)

  unbuilt_end : (left : Left F) → IsRefusal heard words NotBuilt → HasStayed call left (Refused NotBuilt) → HasCause heard words call left
  unbuilt_end left refused stayed = stayed_cause left (Err (Refused NotBuilt)) stayed.is refused

  command_end : (command : Command) (left : Left F) → command_of words ≡ Some command → HasPerformed command call left → HasCause heard words call left
  command_end (Check app) left is told = judged_end ok_text app left (λ nodes a. record { command = Check app; words_are = is; files = (nodes, a) }) (λ r refused. of_files (Check app) r is refused) told
  command_end (Plan app) left is told = judged_end plan_text app left (λ nodes a. record { command = Plan app; words_are = is; files = (nodes, a) }) (λ r refused. of_files (Plan app) r is refused) told
  command_end (Mean app base) left is told = mean_end app base left is told
  command_end (Sim app script settings order) left is done =
      printed_end app script settings (in_order order) left
      (λ r refused. of_files (Sim app script settings order) r is refused)
      (λ job read. record { command = Sim app script settings order; words_are = is; files = (job, read) })
      (λ job read large. record { command = Sim app script settings order; words_are = is; large = (job, read, large) })
      done
  command_end (Run app script settings threads) left is done =
      printed_end app script settings (by_workers threads) left
      (λ r refused. of_files (Run app script settings threads) r is refused)
      (λ job read. record { command = Run app script settings threads; words_are = is; files = (job, read) })
      (λ job read large. record { command = Run app script settings threads; words_are = is; large = (job, read, large) })
      done
  command_end (Gen number size) left is done = gen_end number size left is done
  command_end (Group app groups script settings) left is stayed = unbuilt_end left (of_files (Group app groups script settings) NotBuilt is refl) stayed
  command_end (Trace app script settings order) left is done = trace_end app script settings order left is done
  command_end (Audit app journal script settings) left is told = audit_end app journal script settings left is told

  pub end_cause : (left : Left F) → HasEnded words call left → HasCause heard words call left
  end_cause left (no_command none stayed) = stayed_cause left (Err (Refused NotACommand)) stayed.is (of_words none)
  end_cause left (unread some stayed) = stayed_cause left (Err Memory) stayed.is tt
  end_cause left (performed command is done) = command_end command left is done

  -- ---- what is said of the words alone

  -- words that are no command are told so
  pub words-refused : (left : Left F) → HasEnded words call left → command_of words ≡ None → left.end ≡ Err (Refused NotACommand)
  words-refused left (no_command none stayed) words_are = ap (λ (l : Left F). l.end) stayed.is
  words-refused left (unread some stayed) words_are = absurd (none_and_some (command_of words) words_are some)
  words-refused left (performed command is done) words_are = cc

  apart : (r : Refusal) → IsRefusal heard words r → r ≡ NotACommand → command_of words ≡ None
  apart r (of_words none) e = none
  apart r (of_files (Check app) refusal command is) e = absurd (application_apart heard app (subst (IsApplicationRefusal heard app) e is))
  apart r (of_files (Plan app) refusal command is) e = absurd (application_apart heard app (subst (IsApplicationRefusal heard app) e is))
  apart r (of_files (Mean app base) refusal command is) e = absurd (run_apart heard app (subst (IsRunRefusal heard app) e is))
  apart r (of_files (Sim app script settings order) refusal command is) e = absurd (job_apart heard app script settings (subst (IsJobRefusal heard app script settings) e is))
  apart r (of_files (Run app script settings threads) refusal command is) e = absurd (job_apart heard app script settings (subst (IsJobRefusal heard app script settings) e is))
  apart r (of_files (Gen number size) refusal command is) e = absurd is
  apart r (of_files (Trace app script settings order) refusal command is) e = absurd (job_apart heard app script settings (subst (IsJobRefusal heard app script settings) e is))
  apart r (of_files (Audit app journal script settings) refusal command is) e = absurd (audit_apart heard app journal script settings (subst (IsAuditRefusal heard app journal script settings) e is))
  apart r (of_files _ refusal command is) e = let built : refusal ≡ NotBuilt = is in cc

  -- and no others
  pub refused-words : (left : Left F) → HasEnded words call left → left.end ≡ Err (Refused NotACommand) → command_of words ≡ None
  refused-words left ended e = apart NotACommand (subst (HasCauseOf heard words call left) e (end_cause left ended)) refl

  -- ---- what is said of told files

  module _ (files : List ℕ → Option (List ℕ)) (told : AreTold files call.answers) where
    pub told_accepted : AreAccepted heard words → AreAccepted (by_files files) words
    told_accepted is = of-accepted heard (by_files files) (by-told files call.answers told) words is

    told_refusal : (r : Refusal) → IsRefusal heard words r → IsRefusal (by_files files) words r
    told_refusal r is = of-refusal heard (by_files files) (by-told files call.answers told) words r is

    module _ (all : Bool) where
      large_by : (command : Command) → IsLargeBy heard command all → IsLargeBy (by_files files) command all
      large_by (Mean app base) is = (is.0, of-run heard (by_files files) (by-told files call.answers told) app is.0 is.1, is.2)
      large_by (Sim app script settings order) is = (is.0, of-job heard (by_files files) (by-told files call.answers told) app script settings is.0 is.1, is.2)
      large_by (Run app script settings threads) is = (is.0, of-job heard (by_files files) (by-told files call.answers told) app script settings is.0 is.1, is.2)
      large_by (Gen number size) is = is
      large_by (Trace app script settings order) is = (is.0, of-job heard (by_files files) (by-told files call.answers told) app script settings is.0 is.1, is.2)
      large_by _ is = absurd is

      told_large : IsLargeRun heard words all → IsLargeRun (by_files files) words all
      told_large is = record { command = is.command; words_are = is.words_are; large = large_by is.command is.large }

      accepted_large : (command : Command) → IsLargeBy (by_files files) command all → IsAcceptedBy (by_files files) command
      accepted_large (Mean app base) is = (is.0, is.1)
      accepted_large (Sim app script settings order) is = (is.0, is.1)
      accepted_large (Run app script settings threads) is = (is.0, is.1)
      accepted_large (Gen number size) is = tt
      accepted_large (Trace app script settings order) is = (is.0, is.1)
      accepted_large _ is = absurd is

      large_accepted : IsLargeRun (by_files files) words all → AreAccepted (by_files files) words
      large_accepted is = record { command = is.command; words_are = is.words_are; files = accepted_large is.command is.large }

    abbrev large_told : IsLargeRun heard words (held_tell call.devices) → IsLargeRun (by_files files) words (held_tell call.devices)
    large_told is = told_large (held_tell call.devices) is

    refused_by_cause : (left : Left F) (end : Result ⊤ Stop) (r : Refusal) → IsRefusal (by_files files) words r → HasCauseOf heard words call left end → HasRefused call.folder r end
    refused_by_cause left (Ok v) r is cause = accepted-or-refused files words r (told_accepted cause) is
    refused_by_cause left (Err stop) r is cause =
        caused_weaker (ending_causes heard words call left) (record no_causes { refuses = λ found. found ≡ r; unread = λ name. call.folder }) stop
        (record {
          refuses = λ found refused. refusal-unique files words found r (told_refusal found refused) is;
          unread = λ name rose. rose;
          vault = λ s. accepted-or-refused files words r (told_accepted s.1) is;
          store = λ s. accepted-or-refused files words r (told_accepted s.1) is;
          spool = λ s. accepted-or-refused files words r (told_accepted s.1) is;
          state = λ s. accepted-or-refused files words r (told_accepted s.1) is;
          block = λ s. accepted-or-refused files words r (told_accepted s.1) is;
          output = λ o. accepted-or-refused files words r (told_accepted o.1) is;
          large = λ large. accepted-or-refused files words r (large_accepted (held_tell call.devices) (large_told large)) is;
        }) cause

    -- what is refused first is refused
    pub refused-of : (left : Left F) → HasEnded words call left → (r : Refusal) → IsRefusal (by_files files) words r → HasRefused call.folder r left.end
    refused-of left ended r is = refused_by_cause left left.end r is (end_cause left ended)

    complete_by_cause : (left : Left F) (end : Result ⊤ Stop) → IsTrue call.devices.vault.tells → IsTrue call.devices.spools_tell → AreAccepted (by_files files) words → HasNoFault call.folder call.devices call.output call.errors left → HasCauseOf heard words call left end → IsComplete (IsLargeRun (by_files files) words (held_tell call.devices)) end
    complete_by_cause left (Ok v) v_tells s_tells are kept cause = tt
    complete_by_cause left (Err stop) v_tells s_tells are kept cause =
        caused_weaker (ending_causes heard words call left) (record no_causes { large = IsLargeRun (by_files files) words (held_tell call.devices) }) stop
        (record {
          refuses = λ found refused. accepted-or-refused files words found are (told_refusal found refused);
          unread = λ name rose. kept.folder_kept rose;
          vault = λ rose. kept.vault_kept rose.0;
          store = λ rose. kept.keeper_kept rose.0;
          spool = λ rose. no_spool left.spool kept.spool_kept kept.spools_kept rose.0;
          state = λ untold. untold.0 v_tells;
          block = λ untold. untold.0 s_tells;
          output = λ rose. neither kept.output_kept kept.errors_kept rose.0;
          large = large_told;
        }) cause

    -- what is accepted is done, unless a device fails
    pub complete-of : (left : Left F) → HasEnded words call left → IsTrue call.devices.vault.tells → IsTrue call.devices.spools_tell → AreAccepted (by_files files) words → HasNoFault call.folder call.devices call.output call.errors left → IsComplete (IsLargeRun (by_files files) words (held_tell call.devices)) left.end
    complete-of left ended v_tells s_tells are kept = complete_by_cause left left.end v_tells s_tells are kept (end_cause left ended)
