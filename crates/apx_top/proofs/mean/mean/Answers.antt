use Rattle.std.proofs.Common.{refl}
use Rattle.std.proofs.lemmas.Result.{err_from_is_err_and}
use Rattle.apx_load.specs.Refusals.{by_answers}
use Rattle.apx_load.proofs.Heard.{heard_weaker}
use Rattle.apx_top.specs.Changes.{output_change}
use Rattle.apx_top.specs.Plain.{of_pass}
use Rattle.apx_top.proofs.Acting.{told-nothing, told-large}
use Rattle.apx_top.proofs.mean.mean.Goals as goal

pub returns-in_err-job-clause-heard : goal.returns-in_err-job-clause-heard
returns-in_err-job-clause-heard g c =
    let p = err_from_is_err_and c.from_residual.result c.from_residual.ensures.1 in
    rw (p.1, p.2)
    (heard_weaker g.F.Folder.tells (g.F.Folder.told c.args.files.now) (g.F.Folder.heard c.args.files.now) (g.F.Folder.heard c.unscripted.new.files) _ _
    (λ answers is. told-nothing (of_pass c.args.base (by_answers answers) c.args.name.now) answers _ (output_change g.O.Out.tells g.O.Out.written g.O.Out.faults c.args.out.now c.args.out.now) c.in_err-job.field-0.0 is refl)
    c.in_err-job.ensures.heard)

pub returns-in_err-text-clause-heard : goal.returns-in_err-text-clause-heard
returns-in_err-text-clause-heard g c =
    let p = err_from_is_err_and c.from_residual-in_err-text.result c.from_residual-in_err-text.ensures.1 in
    rw (p.1, p.2)
    (heard_weaker g.F.Folder.tells (g.F.Folder.told c.args.files.now) (g.F.Folder.heard c.args.files.now) (g.F.Folder.heard c.unscripted.new.files) _ _
    (λ answers is. told-large (of_pass c.args.base (by_answers answers) c.args.name.now) answers _ (output_change g.O.Out.tells g.O.Out.written g.O.Out.faults c.args.out.now c.args.out.now) c.in_ok-job.job.flow is c.in_err-text.field-0.0 c.in_err-text.ensures.stop refl)
    c.in_ok-job.ensures.heard)
