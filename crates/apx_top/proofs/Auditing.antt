-- What an audit answers by the files that the folder tells.
use Rattle.std.proofs.Common.{◌≡◌, ℕ, ◌⊎◌, inl, inr, List, Option, Some, refl, sym, ap, subst}
use Rattle.std.specs.Prelude.{Result, Ok, Err, ⊤}
use Rattle.apx_history.specs.declared.Entry.{Entry}
use Rattle.apx_device.specs.Folder.{AreTold}
use Rattle.apx_script.specs.declared.settings.Settings.{Settings}
use Rattle.apx_cmd.specs.declared.commands.Command.{Command}
use Rattle.apx_cmd.specs.declared.commands.Command.TheVariants.{Audit}
use Rattle.apx_cmd.specs.Commands.{command_of}
use Rattle.apx_load.specs.declared.refusal.Refusal.{Refusal}
use Rattle.apx_load.specs.declared.refusal.Refusal.TheVariants.{RefusedEntry}
use Rattle.apx_load.specs.declared.stop.Stop.{Stop}
use Rattle.apx_load.specs.declared.stop.Stop.TheVariants.{Refused, CannotRead, VaultFailed, StoreFailed, SpoolFailed, StateDamaged, BlockDamaged, OutputFailed, Memory, Large}
use Rattle.apx_load.specs.Audits.{IsLegal, IsAuditRefusal}
use Rattle.apx_load.specs.Refusals.{by_answers, by_files}
use Rattle.apx_load.specs.Stops.{IsCaused}
use Rattle.apx_load.proofs.Auditing.{audited-of-legal}
use Rattle.apx_load.proofs.Readings.{by-told, of-legal, of-audit-refusal}
use Rattle.apx_load.proofs.Unique.{audited-or-refused, audit-refusal-unique}
use Rattle.apx_top.specs.Audits.{HasAnswered, AnswersAudits}
use Rattle.apx_top.specs.Changes.{Call}
use Rattle.apx_top.specs.Left.{Left}
use Rattle.apx_top.specs.Plain.{of_journal, telling_causes, HasToldTo, HasPerformed, HasEnded, no_command, unread, performed}

module _ (words : List (List ℕ)) (call : Call) (files : List ℕ → Option (List ℕ)) (told : AreTold files call.answers) where
  abbrev failed : Type 0
  failed = call.folder ⊎ call.output.rose

  module _ (app journal : List ℕ) (script : Option (List ℕ)) (settings : Settings) where
    abbrev legal_in : List Entry → Type 0
    legal_in es = IsLegal (by_files files) app journal script settings es

    abbrev refused_in : Refusal → Type 0
    refused_in r = IsAuditRefusal (by_files files) app journal script settings r

    abbrev answered : Result ⊤ Stop → Type 0
    answered end = HasAnswered files app journal script settings failed end

    told_legal : (es : List Entry) → IsLegal (by_answers call.answers) app journal script settings es → legal_in es
    told_legal es is = of-legal (by_answers call.answers) (by_files files) (by-told files call.answers told) app journal script settings es is

    told_refusal : (r : Refusal) → IsAuditRefusal (by_answers call.answers) app journal script settings r → refused_in r
    told_refusal r is = of-audit-refusal (by_answers call.answers) (by_files files) (by-told files call.answers told) app journal script settings r is

    -- a legal journal isn't refused
    apart : (es : List Entry) (r : Refusal) → legal_in es → refused_in r → ⊥
    apart es r legal refused =
        let accepted = audited-of-legal (by_files files) app journal script settings es legal in
        audited-or-refused files app journal script settings accepted.0 r accepted.1 refused

    -- without memory nothing is told
    short : (end : Result ⊤ Stop) → end ≡ Err Memory → answered end
    short end is = record {
      done = λ e. absurd cc;
      legal = λ es legal none. inr is;
      refused = λ line why e. absurd cc;
      first = λ line why first none. inr is;
    }

    -- a device failed
    fails : (stop : Stop) → failed → ((line why : ℕ) → stop ≡ Refused (RefusedEntry line why) → ⊥) → answered (Err stop)
    fails stop is other = record {
      done = λ e. absurd cc;
      legal = λ es legal none. absurd (none is);
      refused = λ line why e. let same : stop ≡ Refused (RefusedEntry line why) = cc in absurd (other line why same);
      first = λ line why first none. absurd (none is);
    }

    -- something is refused
    refuses : (r : Refusal) → refused_in r → answered (Err (Refused r))
    refuses r is = record {
      done = λ e. absurd cc;
      legal = λ es legal none. absurd (apart es r legal is);
      refused = λ line why e. let same : r ≡ RefusedEntry line why = cc in subst refused_in same is;
      first = λ line why first none. inl (ap (λ (x : Refusal). Err (Refused x)) (audit-refusal-unique files app journal script settings r (RefusedEntry line why) is first));
    }

    stopped : (stop : Stop) → IsCaused (telling_causes (of_journal (by_answers call.answers) app journal script settings) call.answers call.folder call.output.rose) stop → answered (Err stop)
    stopped (Refused r) is = refuses r (told_refusal r is)
    stopped (CannotRead name) is = fails (CannotRead name) (inl is.0) (λ line why e. cc)
    stopped VaultFailed is = absurd is
    stopped StoreFailed is = absurd is
    stopped SpoolFailed is = absurd is
    stopped StateDamaged is = absurd is
    stopped BlockDamaged is = absurd is
    stopped OutputFailed is = fails OutputFailed (inr is.0) (λ line why e. cc)
    stopped Memory is = short (Err Memory) refl
    stopped Large is = absurd is.2

    by_telling : (end : Result ⊤ Stop) → HasToldTo (of_journal (by_answers call.answers) app journal script settings) call.answers call.folder call.output end → answered end
    by_telling (Ok v) is = record {
      done = λ e. (is.0, told_legal is.0 is.1);
      legal = λ es legal none. inl refl;
      refused = λ line why e. absurd cc;
      first = λ line why first none. absurd (apart is.0 (RefusedEntry line why) (told_legal is.0 is.1) first);
    }
    by_telling (Err stop) is = stopped stop is.0

    same_command : (a b : Command) → command_of words ≡ Some a → command_of words ≡ Some b → a ≡ b
    same_command a b p q = cc

    by_end : {F : Type 0} (left : Left F) → HasEnded words call left → command_of words ≡ Some (Audit app journal script settings) → answered left.end
    by_end left (no_command none stayed) command = absurd cc
    by_end left (unread some stayed) command = short left.end (ap (λ l. l.end) stayed.is)
    by_end left (performed other is done) command =
        let told : HasPerformed (Audit app journal script settings) call left = subst (λ (c : Command). HasPerformed c call left) (same_command other (Audit app journal script settings) is command) done in
        subst answered (sym (ap (λ l. l.end) told.is)) (by_telling told.end told.told)

  pub answers-audits : {F : Type 0} (left : Left F) → HasEnded words call left → AnswersAudits files words failed left.end
  answers-audits left ended app journal script settings command = by_end app journal script settings left ended command

-- with more that may fail
pub answers-weaker : (files : List ℕ → Option (List ℕ)) (words : List (List ℕ)) (fault other : Type 0) (end : Result ⊤ Stop) → (fault → other) → AnswersAudits files words fault end → AnswersAudits files words other end
answers-weaker files words fault other end weaker answers app journal script settings command =
    let a = answers app journal script settings command in
    record {
      done = a.done;
      legal = λ es legal none. a.legal es legal (λ f. none (weaker f));
      refused = a.refused;
      first = λ line why first none. a.first line why first (λ f. none (weaker f));
    }
