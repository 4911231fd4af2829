-- What is made of a journal, and of a job with it.
use Rattle.std.proofs.Common.{◌≡◌, ℕ, ◌≤◌, List, ◌++◌, inl, inr, Option}
use Rattle.std.specs.Prelude.{Result, Ok, Err, MatchResult}
use Rattle.apx_cause.specs.Cause.{Rose}
use Rattle.apx_device.specs.Folder.{Answer}
use Rattle.apx_history.specs.declared.Entry.{Entry}
use Rattle.apx_pass.specs.Job.{Job}
use Rattle.apx_script.specs.declared.settings.Settings.{Settings}
use Rattle.apx_job.specs.Job.{plan_of}
use Rattle.apx_audit.specs.declared.audited.Audited.{Audited}
use Rattle.apx_audit.specs.Verdict.{Legal, Refused, IsJournal, IsRefused}
use Rattle.apx_audit.proofs.Verdicts.{one_verdict}
use Rattle.apx_load.specs.declared.stop.Stop.{Stop}
use Rattle.apx_load.specs.Audits.{IsLegalFile, IsJournalRefusal, IsAudited, IsLegal, IsAuditRefusal}
use Rattle.apx_load.specs.Refusals.{Reading, by_answers}
use Rattle.apx_load.specs.Jobs.{IsJob, IsJobRefusal}
use Rattle.apx_load.specs.Stops.{IsCaused, reading_causes}
use Rattle.apx_load.proofs.Readings.{by-first, by-second, of-job, of-legal-file, of-journal-refusal}
use Rattle.apx_load.proofs.Stopping.{read_first, read_later}

-- no line of a legal journal is refused
unrefused : (job : Job) (text : List ℕ) (es : List Entry) → IsJournal (plan_of job) text es → (line why : ℕ) → IsRefused (plan_of job) text line why → ⊥
unrefused job text es legal line why refused =
    let same : Legal es ≡ Refused line why = one_verdict (plan_of job) text (Legal es) (Refused line why) legal refused in
    cc

-- so it is accepted
pub audited-of-legal : (reading : Reading) (app journal : List ℕ) (script : Option (List ℕ)) (settings : Settings) (es : List Entry) → IsLegal reading app journal script settings es → (text : List ℕ) × IsAudited reading app journal script settings text
audited-of-legal reading app journal script settings es is =
    (is.2.text, (is.0, is.1, record { read = is.2.read; unrefused = unrefused is.0 is.2.text es is.2.legal }))

module _ (app journal : List ℕ) (script : Option (List ℕ)) (settings : Settings) where
  -- a stop at the job is one of all
  pub job_first : (answers : List Answer) (rose : Type 0) (stop : Stop) → IsCaused (reading_causes (IsJobRefusal (by_answers answers) app script settings) answers rose) stop → IsCaused (reading_causes (IsAuditRefusal (by_answers answers) app journal script settings) answers rose) stop
  job_first answers rose stop is =
      read_first (IsJobRefusal (by_answers answers) app script settings) (IsAuditRefusal (by_answers answers) app journal script settings) answers rose stop (λ refusal refused. inl refused) is

  -- what is made of the journal once the job was read
  pub audit_of_job : (first second : List Answer) (job : Job) (before mid now : ℕ) (made : Result Audited Stop) → before ≤ mid → IsJob (by_answers first) app script settings job → MatchResult made (λ audited. IsLegalFile (by_answers second) journal job audited.journal) (IsCaused (reading_causes (IsJournalRefusal (by_answers second) journal job) second (Rose mid now))) → MatchResult made (λ audited. IsLegal (by_answers (first ++ second)) app journal script settings audited.journal) (IsCaused (reading_causes (IsAuditRefusal (by_answers (first ++ second)) app journal script settings) (first ++ second) (Rose before now)))
  audit_of_job first second job before mid now (Ok audited) later is legal = (
    job,
    of-job (by_answers first) (by_answers (first ++ second)) (by-first first second) app script settings job is,
    of-legal-file (by_answers second) (by_answers (first ++ second)) (by-second first second) journal job audited.journal legal,
  )
  audit_of_job first second job before mid now (Err stop) later is caused =
      read_later (IsJournalRefusal (by_answers second) journal job) (IsAuditRefusal (by_answers (first ++ second)) app journal script settings) first second before mid now stop later
      (λ refusal refused. inr (
        job,
        of-job (by_answers first) (by_answers (first ++ second)) (by-first first second) app script settings job is,
        of-journal-refusal (by_answers second) (by_answers (first ++ second)) (by-second first second) journal job refusal refused,
      ))
      caused
