-- How a command is performed, told by the names that it lends.
use Rattle.std.proofs.Common.{◌≡◌, ℕ, List, [], refl, sym, ap, ◌∙◌, subst}
use Rattle.std.specs.Prelude.{Result, Err, Option, option_map, Bool, ⊤}
use Rattle.std.specs.Option.{option_copied}
use Rattle.std.specs.Borrow.{Bor}
use Rattle.apx_device.specs.Folder.{Answer}
use Rattle.apx_load.specs.Hearing.{HasHeard}
use Rattle.apx_load.proofs.Heard.{heard_none}
use Rattle.apx_load.specs.declared.stop.Stop.{Stop}
use Rattle.apx_load.specs.Stops.{stop_of_words}
use Rattle.apx_cmd.specs.declared.refusal.CommandRefusal.{CommandRefusal}
use Rattle.apx_cmd.specs.Answers.{Answers}
use Rattle.apx_cmd.specs.Commands.{command_of}
use Rattle.apx_load.specs.declared.stop.Stop.TheVariants.{Refused}
use Rattle.apx_load.specs.declared.refusal.Refusal.TheVariants.{NotBuilt}
use Rattle.apx_load.specs.Refusals.{by_answers}
use Rattle.apx_cmd.specs.declared.commands.Command.{Command}
use Rattle.apx_cmd.specs.declared.commands.Command.TheVariants.{Check, Plan, Mean, Sim, Run, Gen, Group, Trace, Audit}
use Rattle.apx_script.specs.declared.settings.Settings.{Settings}
use Rattle.apx_stores.specs.declared.devices.Devices.{Devices}
use Rattle.apx_pass.specs.Job.{Job}
use Rattle.apx_example.specs.Example.{example_job}
use Rattle.apx_top.specs.Changes.{DevicesChange, OutputChange, Call, call_of, AreUntouched}
use Rattle.apx_top.specs.Left.{Left, without_run}
use Rattle.apx_top.specs.Plain.{HasToldTo, of_journal, HasStayed, HasPrintedFiles, HasTracedFiles, HasMade, made, HasPerformed, HasEnded}
use Rattle.apx_top.proofs.Acting.{unheard}
use Rattle.apx_top.specs.Run.{IsUnprinted, HasReported, HasRun}
use Rattle.apx_top.specs.Way.{Way, in_order}

-- devices that came back are, as values, those that they were
pub untouched : {K V P : Type 0} (old new : Devices K V P) → new ≡ old → ((new.keeper ≡ old.keeper) × (new.vault ≡ old.vault)) × (new.spools ≡ old.spools)
untouched old new is = ((ap (λ d. d.keeper) is, ap (λ d. d.vault) is), ap (λ d. d.spools) is)

-- words that tell nothing end so
pub unheard_ended : {F : Type 0} (tells : Bool) (files : List ℕ → Option (List ℕ)) (heard : List Answer → Type 0) (words : List (List ℕ)) (folder : Type 0) (devices : DevicesChange) (output errors : OutputChange) (refusal : CommandRefusal) (stop : Stop) (left : Left F) → stop ≡ stop_of_words refusal → left ≡ without_run (Err stop) → AreUntouched devices → IsUnprinted output → Answers (command_of words) (Err refusal) → HasHeard tells files heard heard (λ answers. HasEnded words (call_of answers folder devices output errors) left)
unheard_ended {F} tells files heard words folder devices output errors refusal stop left same is kept unprinted told =
    heard_none tells files heard (λ answers. HasEnded words (call_of answers folder devices output errors) left)
    (subst (λ (l : Left F). HasEnded words (call_of [] folder devices output errors) l) (sym (is ∙ ap (λ s. without_run (Err s)) same))
    (unheard F words (call_of [] folder devices output errors) refusal refl kept unprinted told))

-- ---- what isn't built

-- the commands that aren't built
abbrev pub IsUnbuilt : Command → Type 0
IsUnbuilt (Check app) = ⊥
IsUnbuilt (Plan app) = ⊥
IsUnbuilt (Mean app base) = ⊥
IsUnbuilt (Sim app script settings order) = ⊥
IsUnbuilt (Run app script settings threads) = ⊥
IsUnbuilt (Gen number size) = ⊥
IsUnbuilt (Trace app script settings order) = ⊥
IsUnbuilt (Audit app journal script settings) = ⊥
IsUnbuilt _ = ⊤

module _ {F : Type 0} (tells : Bool) (files : List ℕ → Option (List ℕ)) (heard : List Answer → Type 0) (folder : Type 0) (devices : DevicesChange) (output errors : OutputChange) (left : Left F) (is : left ≡ without_run (Err (Refused NotBuilt))) (same : AreUntouched devices) (unprinted : IsUnprinted output) where
  stayed_heard : HasHeard tells files heard heard (λ answers. HasStayed (call_of answers folder devices output errors) left (Refused NotBuilt))
  stayed_heard = heard_none tells files heard (λ answers. HasStayed (call_of answers folder devices output errors) left (Refused NotBuilt)) (record { is = is; unread = refl; same = same; unprinted = unprinted })

  unbuilt_by : (command : Command) → IsUnbuilt command → HasHeard tells files heard heard (λ answers. HasPerformed command (call_of answers folder devices output errors) left)
  unbuilt_by (Check app) none = absurd none
  unbuilt_by (Plan app) none = absurd none
  unbuilt_by (Mean app base) none = absurd none
  unbuilt_by (Sim app script settings order) none = absurd none
  unbuilt_by (Run app script settings threads) none = absurd none
  unbuilt_by (Gen number size) none = absurd none
  unbuilt_by (Group app groups script settings) none = stayed_heard
  unbuilt_by (Trace app script settings order) none = absurd none
  unbuilt_by (Audit app journal script settings) none = absurd none

  -- a command that isn't built is told so
  pub unbuilt_heard : (given command : Command) → given ≡ command → IsUnbuilt command → HasHeard tells files heard heard (λ answers. HasPerformed given (call_of answers folder devices output errors) left)
  unbuilt_heard given command e none = subst (λ (c : Command). HasHeard tells files heard heard (λ answers. HasPerformed c (call_of answers folder devices output errors) left)) (sym e) (unbuilt_by command none)

-- ---- what is told

module _ {F : Type 0} (given : Command) (call : Call) (left : Left F) (end : Result ⊤ Stop) (left_is : left ≡ without_run end) (same : AreUntouched call.devices) where
  -- an audit that is told by lent names
  pub audit_by : (lent_app app lent_journal journal : List ℕ) (lent : Option (Bor (List ℕ))) (script : Option (List ℕ)) (settings : Settings) → lent_app ≡ app → lent_journal ≡ journal → option_copied lent ≡ script → given ≡ Audit app journal script settings →
      HasToldTo (of_journal (by_answers call.answers) lent_app lent_journal (option_map (λ n. n.now) lent) settings) call.answers call.folder call.output end → HasPerformed given call left
  audit_by lent_app app lent_journal journal lent script settings same_app same_journal copied is told =
      let T : List ℕ → List ℕ → Option (List ℕ) → Type 0 = λ a j s. HasToldTo (of_journal (by_answers call.answers) a j s settings) call.answers call.folder call.output end in
      subst (λ (c : Command). HasPerformed c call left) (sym is) (record {
        end = end;
        is = left_is;
        same = same;
        told = subst (λ (s : Option (List ℕ)). T app journal s) copied (subst (λ (j : List ℕ). T app j (option_map (λ n. n.now) lent)) same_journal (subst (λ (a : List ℕ). T a lent_journal (option_map (λ n. n.now) lent)) same_app told));
      })

-- a run that is told by lent names, where the command is one that runs so
pub printed_by : {F : Type 0} (named : List ℕ → Option (List ℕ) → Command) (way : Way) (lent_app app : List ℕ) (lent : Option (Bor (List ℕ))) (script : Option (List ℕ)) (settings : Settings) (given : Command) (call : Call) (left : Left F) → lent_app ≡ app → option_copied lent ≡ script → given ≡ named app script → (HasPrintedFiles app script settings way call left → HasPerformed (named app script) call left) → HasPrintedFiles lent_app (option_map (λ n. n.now) lent) settings way call left → HasPerformed given call left
printed_by named way lent_app app lent script settings given call left same copied is performs done =
    subst (λ (c : Command). HasPerformed c call left) (sym is)
    (performs (subst (λ (s : Option (List ℕ)). HasPrintedFiles app s settings way call left) copied
    (subst (λ (a : List ℕ). HasPrintedFiles a (option_map (λ n. n.now) lent) settings way call left) same done)))

-- and one whose journal is printed
pub trace_by : {F : Type 0} (lent_app app : List ℕ) (lent : Option (Bor (List ℕ))) (script : Option (List ℕ)) (settings : Settings) (order : ℕ) (given : Command) (call : Call) (left : Left F) → lent_app ≡ app → option_copied lent ≡ script → given ≡ Trace app script settings order → HasTracedFiles lent_app (option_map (λ n. n.now) lent) settings order call left → HasPerformed given call left
trace_by lent_app app lent script settings order given call left same copied is done =
    subst (λ (c : Command). HasPerformed c call left) (sym is)
    (subst (λ (s : Option (List ℕ)). HasTracedFiles app s settings order call left) copied
    (subst (λ (a : List ℕ). HasTracedFiles a (option_map (λ n. n.now) lent) settings order call left) same done))

-- an example that is run
pub gen_by : {F : Type 0} (number size : ℕ) (given : Command) (call : Call) (left : Left F) → given ≡ Gen number size → call.answers ≡ [] → HasMade number size call.devices call.output left → HasPerformed given call left
gen_by number size given call left is none done = subst (λ (c : Command). HasPerformed c call left) (sym is) (record { unread = none; generated = done })

-- the job of an example was run
pub made_by : {F : Type 0} (number size : ℕ) (devices : DevicesChange) (output : OutputChange) (left : Left F) (job : Job) → job ≡ example_job number size → HasRun (IsUnprinted output) (λ es end. HasReported job es devices output end) job (in_order number) devices left → HasMade number size devices output left
made_by number size devices output left job is run =
    made (subst (λ (j : Job). HasRun (IsUnprinted output) (λ es end. HasReported j es devices output end) j (in_order number) devices left) is run)
