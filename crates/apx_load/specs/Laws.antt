-- What holds of what is accepted and of the first refusal, for any words and any files that a folder tells.
use Rattle.std.specs.Prelude.{◌≡◌, ℕ, ◌≤◌, List, length, Option, Some}
use Rattle.std.specs.List.{AllByRecursion}
use Rattle.apx_history.specs.declared.Entry.{Entry}
use Rattle.apx_history.specs.Laws.{IsHistory}
use Rattle.apx_script.specs.declared.settings.Settings.{Settings}
use Rattle.apx_pass.specs.Job.{Job}
use Rattle.apx_job.specs.Job.{plan_of}
use Rattle.apx_audit.specs.Text.{journal_text, IsEntry}
use Rattle.apx_load.specs.declared.refusal.Refusal.{Refusal}
use Rattle.apx_load.specs.Refusals.{by_files}
use Rattle.apx_load.specs.Jobs.{IsJob}
use Rattle.apx_load.specs.Audits.{IsAudited, IsLegal}
use Rattle.apx_load.specs.First.{AreAccepted, IsRefusal}

-- words and files are never both accepted and refused
abbrev pub NeverBoth : Type 0
NeverBoth =
    (told : List ℕ → Option (List ℕ)) (words : List (List ℕ)) (refusal : Refusal) →
    AreAccepted (by_files told) words → IsRefusal (by_files told) words refusal → ⊥

-- and never neither
abbrev pub NeverNeither : Type 0
NeverNeither =
    (told : List ℕ → Option (List ℕ)) (words : List (List ℕ)) →
    (AreAccepted (by_files told) words → ⊥) → ((refusal : Refusal) → IsRefusal (by_files told) words refusal → ⊥) → ⊥

-- and the first refusal is one
abbrev pub OneRefusal : Type 0
OneRefusal =
    (told : List ℕ → Option (List ℕ)) (words : List (List ℕ)) (refusal other : Refusal) →
    IsRefusal (by_files told) words refusal → IsRefusal (by_files told) words other → refusal ≡ other

-- A legal journal is accepted.
abbrev pub LegalIsAccepted : Type 0
LegalIsAccepted =
    (told : List ℕ → Option (List ℕ)) (app journal : List ℕ) (script : Option (List ℕ)) (settings : Settings) (es : List Entry) →
    IsLegal (by_files told) app journal script settings es → (text : List ℕ) × IsAudited (by_files told) app journal script settings text

-- An audit takes the text of these entries for a legal journal: wherever the files spell the job by these names and settings, and
-- a file has the text, which has at most 64 MiB, under whatever settings make checkpoints at the same windows.
abbrev pub IsAuditedAsLegal : Job → List ℕ → Option (List ℕ) → Settings → List Entry → Type 0
IsAuditedAsLegal job app script settings es =
    (told : List ℕ → Option (List ℕ)) (journal : List ℕ) (other : Settings) →
    IsJob (by_files told) app script settings job → other.every ≡ settings.every →
    told journal ≡ Some (journal_text es) → length (journal_text es) ≤ 67108864 → IsLegal (by_files told) app journal script other es

-- The history of a run of a job that began from nothing, written down, is such a journal.
abbrev pub WrittenIsLegal : Type 0
WrittenIsLegal =
    (job : Job) (app : List ℕ) (script : Option (List ℕ)) (settings : Settings) (es : List Entry) →
    AllByRecursion IsEntry es → IsHistory (plan_of job) 0 0 es → IsAuditedAsLegal job app script settings es
