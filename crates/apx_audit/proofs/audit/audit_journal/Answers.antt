use Rattle.std.proofs.Common.{rules}
use Rattle.apx_job.specs.Job.{plan_of}
use Rattle.apx_audit.specs.declared.audited.Audited.{Audited}
use Rattle.apx_audit.specs.Verdict.{IsJournal, Verdict, Legal, IsVerdict, Told}
use Rattle.apx_audit.proofs.Verdicts.{one_verdict}
use Rattle.apx_audit.proofs.Judging.{told_one}
use Rattle.apx_audit.proofs.audit.audit_journal.Goals as goal

pub returns-in_err-journal-clause-only : goal.returns-in_err-journal-clause-only
returns-in_err-journal-clause-only c =
    let told : Told {X = Audited} (λ audited. audited.journal) c.from_residual-in_err-journal.result (IsVerdict (plan_of c.args.job.now) c.args.text.now) = search rules in
    told_one (λ (audited : Audited). audited.journal) (plan_of c.args.job.now) c.args.text.now c.from_residual-in_err-journal.result told

pub returns-clause-only : goal.returns-clause-only
returns-clause-only c =
    let told : IsJournal (plan_of c.args.job.now) c.args.text.now c.in_ok-journal.journal = search rules in
    λ verdict is. one_verdict (plan_of c.args.job.now) c.args.text.now (Legal c.in_ok-journal.journal) verdict told is
