use Rattle.std.proofs.Common.{inr}
use Rattle.std.proofs.lemmas.Result.{err_from_is_err_and}
use Rattle.apx_step.proofs.Closing.{step-keyed}
use Rattle.apx_step.proofs.Ranking.{step-top}
use Rattle.apx_step.proofs.steps.step_in_place.Goals as goal

pub returns-in_err-top-in-Top-clause-large : goal.returns-in_err-top-in-Top-clause-large
returns-in_err-top-in-Top-clause-large c =
    let p = err_from_is_err_and c.from_residual.result c.from_residual.ensures.1 in
    rw (step-top c.args.kind.now c.in-Top.k c.args.window c.args.state c.args.left.now c.args.right.now c.in-Top.is)
    (λ h. inr (c.in_err-top-in-Top.ensures.large (let is = p.1 in let gives = p.2 in cc)))

pub returns-in_ok-top-in-Top-clause-ok : goal.returns-in_ok-top-in-Top-clause-ok
returns-in_ok-top-in-Top-clause-ok c =
    rw (step-top c.args.kind.now c.in-Top.k c.args.window c.args.state c.args.left.now c.args.right.now c.in-Top.is) (c.new.ensures, c.in_ok-top-in-Top.ensures.ok)

pub returns-in_default : goal.returns-in_default
returns-in_default c = rw (step-keyed c.args.kind.now c.args.window c.args.state c.args.left.now c.args.right.now c.in_default.not-Top) c.keyed_step.ensures
