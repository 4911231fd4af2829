-- What is said of the error output behind a run, once the line of its stop is written.
use Rattle.std.proofs.Common.{◌≡◌, ℕ, ◌⊎◌, inl, inr, List, sym, subst}
use Rattle.std.specs.Prelude.{Result, Ok, Err, Option, ⊤}
use Rattle.apx_device.specs.Folder.{Answer}
use Rattle.apx_history.specs.declared.Entry.{Entry}
use Rattle.apx_script.specs.declared.settings.Settings.{Settings}
use Rattle.apx_pass.specs.Job.{Job}
use Rattle.apx_cmd.specs.declared.commands.Command.{Command}
use Rattle.apx_cmd.specs.declared.commands.Command.TheVariants.{Check, Plan, Mean, Sim, Run, Gen, Group, Trace, Audit}
use Rattle.apx_load.specs.declared.stop.Stop.{Stop}
use Rattle.apx_load.specs.declared.stop.Stop.TheVariants.{Refused, CannotRead, VaultFailed, StoreFailed, SpoolFailed, StateDamaged, BlockDamaged, OutputFailed, Memory, Large}
use Rattle.apx_load.specs.Stops.{IsCaused}
use Rattle.apx_top.specs.Changes.{DevicesChange, OutputChange, Call, call_of}
use Rattle.apx_top.specs.Left.{Left}
use Rattle.apx_top.specs.Plain.{HasStayed, HasTold, Telling, HasPrintedFiles, HasTracedFiles, stopped_reading, ran, HasPerformed, HasEnded, no_command, unread, performed, IsTold}
use Rattle.apx_top.specs.Trace.{HasTraced}
use Rattle.apx_top.specs.Way.{Way, in_order, by_workers}
use Rattle.apx_top.specs.Run.{HasPrinted, printing_causes, HasRun, unbegun, stopped, ended}

-- a stop has a line, or there is none to write
pub told_or_not : (end : Result ⊤ Stop) → IsTold end ⊎ (IsTold end → ⊥)
told_or_not (Ok v) = inr (λ none. none)
told_or_not (Err OutputFailed) = inr (λ none. none)
told_or_not (Err (Refused refusal)) = inl tt
told_or_not (Err (CannotRead name)) = inl tt
told_or_not (Err VaultFailed) = inl tt
told_or_not (Err StoreFailed) = inl tt
told_or_not (Err SpoolFailed) = inl tt
told_or_not (Err StateDamaged) = inl tt
told_or_not (Err BlockDamaged) = inl tt
told_or_not (Err Memory) = inl tt
told_or_not (Err Large) = inl tt

-- a stop with a line isn't one of an output
other_cause : (store output other : Type 0) (stop : Stop) → IsTold (Err stop) → IsCaused (printing_causes store output) stop → IsCaused (printing_causes store other) stop
other_cause store output other (Refused refusal) told is = is
other_cause store output other (CannotRead name) told is = is
other_cause store output other VaultFailed told is = is
other_cause store output other StoreFailed told is = is
other_cause store output other SpoolFailed told is = is
other_cause store output other StateDamaged told is = is
other_cause store output other BlockDamaged told is = is
other_cause store output other OutputFailed told is = absurd told
other_cause store output other Memory told is = is
other_cause store output other Large told is = is

module _ {F : Type 0} (answers : List Answer) (folder : Type 0) (devices : DevicesChange) (output errors later : OutputChange) (left : Left F) (told : IsTold left.end) where
  abbrev before : Call
  before = call_of answers folder devices output errors

  abbrev behind : Call
  behind = call_of answers folder devices output later

  stayed : (stop : Stop) → HasStayed before left stop → HasStayed behind left stop
  stayed stop is = record { is = is.is; unread = is.unread; same = is.same; unprinted = is.unprinted }

  told_of : {X : Type 0} (telling : Telling X) → HasTold telling before left → HasTold telling behind left
  told_of telling is = record { end = is.end; is = is.is; same = is.same; told = is.told }

  printed : (job : Job) (es : List Entry) (end : Result ⊤ Stop) → IsTold end → HasPrinted job es devices output errors end → HasPrinted job es devices output later end
  printed job es end line is = record {
    whole = λ done pass. absurd (subst IsTold done line);
    front = is.front;
    report_front = λ failed pass. absurd (subst IsTold failed line);
    cause = λ stop stops. other_cause _ _ _ stop (subst IsTold stops line) (is.cause stop stops);
  }

  run_of : (U : Type 0) (job : Job) (way : Way) → HasRun U (λ es end. HasPrinted job es devices output errors end) job way devices left → HasRun U (λ es end. HasPrinted job es devices output later end) job way devices left
  run_of U job way (unbegun stop is caused beyond same u) = unbegun stop is caused beyond same u
  run_of U job way (stopped es met is done u) = stopped es met is done u
  run_of U job way (ended es end is done p) = ended es end is done (printed job es end (subst (λ (l : Left F). IsTold l.end) is told) p)

  printed_files : (app : List ℕ) (script : Option (List ℕ)) (settings : Settings) (way : Way) → HasPrintedFiles app script settings way before left → HasPrintedFiles app script settings way behind left
  printed_files app script settings way (stopped_reading stop is caused same unprinted) = stopped_reading stop is caused same unprinted
  printed_files app script settings way (ran job is run) = ran job is (run_of _ job way run)

  traced : (job : Job) (es : List Entry) (end : Result ⊤ Stop) → IsTold end → HasTraced job es devices output errors end → HasTraced job es devices output later end
  traced job es end line is = record {
    journal = is.journal;
    entries = is.entries;
    report = λ done pass. absurd (subst IsTold done line);
    front = is.front;
    unprinted = is.unprinted;
    report_front = λ failed pass. absurd (subst IsTold failed line);
    cause = λ stop stops. other_cause _ _ _ stop (subst IsTold stops line) (is.cause stop stops);
  }

  trace_of : (U : Type 0) (job : Job) (way : Way) → HasRun U (λ es end. HasTraced job es devices output errors end) job way devices left → HasRun U (λ es end. HasTraced job es devices output later end) job way devices left
  trace_of U job way (unbegun stop is caused beyond same u) = unbegun stop is caused beyond same u
  trace_of U job way (stopped es met is done u) = stopped es met is done u
  trace_of U job way (ended es end is done p) = ended es end is done (traced job es end (subst (λ (l : Left F). IsTold l.end) is told) p)

  traced_files : (app : List ℕ) (script : Option (List ℕ)) (settings : Settings) (order : ℕ) → HasTracedFiles app script settings order before left → HasTracedFiles app script settings order behind left
  traced_files app script settings order (stopped_reading stop is caused same unprinted) = stopped_reading stop is caused same unprinted
  traced_files app script settings order (ran job is run) = ran job is (trace_of _ job (in_order order) run)

  performed_behind : (command : Command) → HasPerformed command before left → HasPerformed command behind left
  performed_behind (Check app) is = record { one = is.one; judged = told_of _ is.judged }
  performed_behind (Plan app) is = record { one = is.one; judged = told_of _ is.judged }
  performed_behind (Mean app base) is = told_of _ is
  performed_behind (Sim app script settings order) is = printed_files app script settings (in_order order) is
  performed_behind (Run app script settings threads) is = printed_files app script settings (by_workers threads) is
  performed_behind (Gen number size) is = record { unread = is.unread; generated = is.generated }
  performed_behind (Group app groups script settings) is = stayed _ is
  performed_behind (Trace app script settings order) is = traced_files app script settings order is
  performed_behind (Audit app journal script settings) is = told_of _ is

  pub ended_behind : (words : List (List ℕ)) → HasEnded words before left → HasEnded words behind left
  ended_behind words (no_command none is) = no_command none (stayed _ is)
  ended_behind words (unread some is) = unread some (stayed _ is)
  ended_behind words (performed command words_are is) = performed command words_are (performed_behind command is)

-- however it ended: with a line, or with the error output as the run left it
pub ended_with : {F : Type 0} (words : List (List ℕ)) (answers : List Answer) (folder : Type 0) (devices : DevicesChange) (output errors later : OutputChange) (left : Left F) → ((IsTold left.end → ⊥) → later ≡ errors) → HasEnded words (call_of answers folder devices output errors) left → HasEnded words (call_of answers folder devices output later) left
ended_with {F} words answers folder devices output errors later left same is = by_line (told_or_not left.end)
  where
    by_line : IsTold left.end ⊎ (IsTold left.end → ⊥) → HasEnded words (call_of answers folder devices output later) left
    by_line (inl line) = ended_behind answers folder devices output errors later left line words is
    by_line (inr none) = subst (λ (o : OutputChange). HasEnded words (call_of answers folder devices output o) left) (sym (same none)) is
