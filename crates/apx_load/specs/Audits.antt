-- What journals are accepted, and what is refused of the others.
--     IsAudited reading app journal script settings text         the files are accepted, and the journal's text
--     IsLegal reading app journal script settings es             the same, and the entries of its legal journal
--     IsAuditRefusal reading app journal script settings refusal the first thing that is refused
use Rattle.std.specs.Prelude.{ℕ, ◌⊎◌, List, Option, Ok}
use Rattle.apx_history.specs.declared.Entry.{Entry}
use Rattle.apx_script.specs.declared.settings.Settings.{Settings}
use Rattle.apx_pass.specs.Job.{Job}
use Rattle.apx_job.specs.Job.{plan_of}
use Rattle.apx_audit.specs.Verdict.{IsJournal, IsRefused}
use Rattle.apx_load.specs.declared.refusal.Refusal.{Refusal}
use Rattle.apx_load.specs.declared.refusal.Refusal.TheVariants.{RefusedEntry}
use Rattle.apx_load.specs.Refusals.{Reading, IsFileRefusal}
use Rattle.apx_load.specs.Jobs.{IsJob, IsJobRefusal}

-- ---- the journal's file: at most 64 MiB, and no line that is refused for the job

-- the first line of a text that is refused for a job
abbrev pub IsEntryRefusal : Job → List ℕ → Refusal → Type 0
IsEntryRefusal job text (RefusedEntry line why) = IsRefused (plan_of job) text line why
IsEntryRefusal job text _ = ⊥

-- no line of a text is refused for a job
abbrev pub IsUnrefused : Job → List ℕ → Type 0
IsUnrefused job text = (line why : ℕ) → IsRefused (plan_of job) text line why → ⊥

-- the journal in this file has this text, of which no line is refused for the job
pub record IsJournalFile (reading : Reading) (name : List ℕ) (job : Job) (text : List ℕ) : Type 0 where
  -- it is read
  pub read : reading name 67108864 (Ok text)
  -- no line is refused
  pub unrefused : IsUnrefused job text

-- the text of the journal in this file is that of a legal journal of the job, which has these entries
pub record IsLegalFile (reading : Reading) (name : List ℕ) (job : Job) (es : List Entry) : Type 0 where
  -- the bytes of the file
  pub text : List ℕ
  -- they are read
  pub read : reading name 67108864 (Ok text)
  -- they are the text of a legal journal
  pub legal : IsJournal (plan_of job) text es

-- the first thing that is refused of the journal's file
abbrev pub IsJournalRefusal : Reading → List ℕ → Job → Refusal → Type 0
IsJournalRefusal reading name job refusal =
    IsFileRefusal reading name 67108864 refusal
    ⊎ ((text : List ℕ) × reading name 67108864 (Ok text) × IsEntryRefusal job text refusal)

-- ---- a journal for the job of an application, its inputs, a script and settings

-- the job's files are accepted, and so is the journal, whose text this is
abbrev pub IsAudited : Reading → (app journal : List ℕ) → Option (List ℕ) → Settings → List ℕ → Type 0
IsAudited reading app journal script settings text =
    (job : Job) × IsJob reading app script settings job × IsJournalFile reading journal job text

-- the job's files are accepted, and the journal is a legal one of the job, with these entries
abbrev pub IsLegal : Reading → (app journal : List ℕ) → Option (List ℕ) → Settings → List Entry → Type 0
IsLegal reading app journal script settings es =
    (job : Job) × IsJob reading app script settings job × IsLegalFile reading journal job es

-- the first thing that is refused: of the application, of an input, of the script, or of the journal
abbrev pub IsAuditRefusal : Reading → (app journal : List ℕ) → Option (List ℕ) → Settings → Refusal → Type 0
IsAuditRefusal reading app journal script settings refusal =
    IsJobRefusal reading app script settings refusal
    ⊎ ((job : Job) × IsJob reading app script settings job × IsJournalRefusal reading journal job refusal)
