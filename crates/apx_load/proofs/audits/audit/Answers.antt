use Rattle.std.proofs.lemmas.Result.{err_from_is_err_and}
use Rattle.std.specs.Prelude.{option_map}
use Rattle.apx_load.proofs.Heard.{heard_then, heard_weaker}
use Rattle.apx_load.proofs.Auditing.{job_first, audit_of_job}
use Rattle.apx_load.proofs.audits.audit.Goals as goal

pub returns-in_err-job-clause-heard : goal.returns-in_err-job-clause-heard
returns-in_err-job-clause-heard g c =
    let p = err_from_is_err_and c.from_residual.result c.from_residual.ensures.1 in
    rw (p.1, p.2)
    (heard_weaker g.F.Folder.tells (g.F.Folder.told c.args.files.now) (g.F.Folder.heard c.args.files.now) (g.F.Folder.heard c.job.new.files) _ _
    (λ answers is. job_first c.args.name.now c.args.journal.now (option_map (λ n. n.now) c.args.script) c.args.settings answers _ c.in_err-job.field-0.0 is)
    c.in_err-job.ensures.heard)

pub returns-clause-heard : goal.returns-clause-heard
returns-clause-heard g c =
    heard_then g.F.Folder.tells (g.F.Folder.told c.args.files.now) (g.F.Folder.told c.job.new.files) (g.F.Folder.heard c.args.files.now) (g.F.Folder.heard c.job.new.files) (g.F.Folder.heard c.judged.new.files) _ _ _ c.in_ok-job.ensures.told
    (λ first second read is. audit_of_job c.args.name.now c.args.journal.now (option_map (λ n. n.now) c.args.script) c.args.settings first second c.in_ok-job.job _ _ _ c.judged.result c.in_ok-job.ensures.later read is)
    c.in_ok-job.ensures.heard c.judged.ensures.heard
