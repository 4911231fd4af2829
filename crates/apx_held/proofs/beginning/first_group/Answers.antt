use Rattle.std.proofs.Common.{ℕ, Err, refl, ap, ◌∙◌, replicate, arith}
use Rattle.std.proofs.lemmas.Result.{err_from_is_err_and}
use Rattle.apx_held.specs.Begun.{first_holding}
use Rattle.apx_held.proofs.Causes.{cause_ok, cause_err, cause_memory}
use Rattle.apx_held.proofs.beginning.first_group.Goals as goal

pub returns-in_err-held-clause-cause : goal.returns-in_err-held-clause-cause
returns-in_err-held-clause-cause g c =
    let p = err_from_is_err_and c.from_residual.result c.from_residual.ensures.1 in
    cause_err _ _ _ _ c.from_residual.result _ _ c.loop-done.invariant.later c.in_err-held.ensures.cause refl (p.1 ∙ ap Err p.2)

pub returns-in_err-add-clause-cause : goal.returns-in_err-add-clause-cause
returns-in_err-add-clause-cause g c =
    let p = err_from_is_err_and c.from_residual-in_err-add.result c.from_residual-in_err-add.ensures.1 in
    cause_memory _ _ c.from_residual-in_err-add.result (omega (arith, c.loop-done.invariant.later, c.in_ok-held.ensures.cause.later)) (p.1 ∙ ap Err (p.2 ∙ c.in_err-add.ensures.memory))

pub returns-clause-first : goal.returns-clause-first
returns-clause-first g c = c.loop-done.invariant.first ∙ ap (λ (k : ℕ). replicate k (first_holding c.args.plan)) (omega arith)

pub returns-clause-cause : goal.returns-clause-cause
returns-clause-cause g c = cause_ok _ _ _ _ c.loop-done.invariant.later
