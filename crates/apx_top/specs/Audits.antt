-- What the audit of a journal tells, and what it answers by the files that a folder tells.
use Rattle.std.specs.Prelude.{◌≡◌, ℕ, ◌⊎◌, List, ◌++◌, length, Option, Some, Result, Ok, Err, codes, decimal, ⊤}
use Rattle.apx_history.specs.declared.Entry.{Entry}
use Rattle.apx_script.specs.declared.settings.Settings.{Settings}
use Rattle.apx_audit.specs.declared.audited.AuditEnd.{AuditEnd}
use Rattle.apx_audit.specs.declared.audited.AuditEnd.TheVariants.{Ended, Fault, Open}
use Rattle.apx_audit.specs.Verdict.{end_of}
use Rattle.apx_cmd.specs.declared.commands.Command.TheVariants.{Audit}
use Rattle.apx_cmd.specs.Commands.{command_of}
use Rattle.apx_load.specs.declared.refusal.Refusal.TheVariants.{RefusedEntry}
use Rattle.apx_load.specs.declared.stop.Stop.{Stop}
use Rattle.apx_load.specs.declared.stop.Stop.TheVariants.{Refused, Memory}
use Rattle.apx_load.specs.Audits.{IsLegal, IsAuditRefusal}
use Rattle.apx_load.specs.Refusals.{by_files}

-- how a journal ends, in a word
abbrev pub end_text : AuditEnd → List ℕ
end_text Ended = codes "ended"
end_text Fault = codes "fault"
end_text Open = codes "open"

-- the line that tells so many entries and such an end
abbrev pub verdict_text : ℕ → AuditEnd → List ℕ
verdict_text count end = codes "legal " ++ (decimal count ++ (codes " " ++ (end_text end ++ codes "\n")))

-- the line that tells a legal journal: how many entries it has, and how it ends
abbrev pub legal_text : List Entry → List ℕ
legal_text es = verdict_text (length es) (end_of es)

-- it ended with this stop, or for want of memory
abbrev pub EndsWith : Result ⊤ Stop → Result ⊤ Stop → Type 0
EndsWith wanted end = (end ≡ wanted) ⊎ (end ≡ Err Memory)

-- What an audit of files that the folder tells answers: `failed` says that a device did.
pub record HasAnswered
    (told : List ℕ → Option (List ℕ)) (app journal : List ℕ) (script : Option (List ℕ)) (settings : Settings)
    (failed : Type 0) (end : Result ⊤ Stop) : Type 0 where
  -- what it tells as legal is a legal journal
  pub done : end ≡ Ok tt → (es : List Entry) × IsLegal (by_files told) app journal script settings es
  -- and each legal journal is told as such
  pub legal : (es : List Entry) → IsLegal (by_files told) app journal script settings es → (failed → ⊥) → EndsWith (Ok tt) end
  -- the line that it refuses is the first one that is refused, after all else was accepted
  pub refused : (line why : ℕ) → end ≡ Err (Refused (RefusedEntry line why)) →
      IsAuditRefusal (by_files told) app journal script settings (RefusedEntry line why)
  -- and each such line is refused
  pub first : (line why : ℕ) → IsAuditRefusal (by_files told) app journal script settings (RefusedEntry line why) →
      (failed → ⊥) → EndsWith (Err (Refused (RefusedEntry line why))) end

-- where the words are those of an audit, it answers so
abbrev pub AnswersAudits : (List ℕ → Option (List ℕ)) → List (List ℕ) → Type 0 → Result ⊤ Stop → Type 0
AnswersAudits told words failed end =
    (app journal : List ℕ) (script : Option (List ℕ)) (settings : Settings) →
    command_of words ≡ Some (Audit app journal script settings) →
    HasAnswered told app journal script settings failed end
