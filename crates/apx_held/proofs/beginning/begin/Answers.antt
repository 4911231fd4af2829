use Rattle.std.proofs.Common.{ℕ, ◌∙◌, refl, List, [], Err, length, replicate, get_or, ap, arith}
use Rattle.std.proofs.lemmas.Result.{err_from_is_err_and}
use Rattle.apx_history.specs.State.{oper}
use Rattle.apx_held.specs.Begun.{first_holding}
use Rattle.apx_held.specs.Holding.{Holding}
use Rattle.apx_held.proofs.Begun.{groups_more}
use Rattle.apx_held.proofs.Causes.{cause_ok, cause_err, cause_memory}
use Rattle.apx_held.proofs.beginning.begin.Goals as goal

pub loop-op-preserved : goal.loop-op-preserved
loop-op-preserved g c =
    let group = c.of.ensures ∙ c.in_ok-group.ensures.first ∙ ap (λ (k : ℕ). replicate k (first_holding c.args.plan)) c.parts.ensures in
    let more = groups_more (λ (o : ℕ). replicate (length (oper c.args.machine.now.state o).parts) (first_holding c.args.plan)) c.loop-op.groups.items c.of.result c.loop-op.op
    c.loop-op.invariant.count c.loop-op.invariant.first group c.add.new.members.items c.in_ok-add.ensures.items in
    record { count = more.0; first = more.1; later = omega (arith, c.loop-op.invariant.later, c.in_ok-group.ensures.cause.later) }

pub returns-in_err-group-clause-cause : goal.returns-in_err-group-clause-cause
returns-in_err-group-clause-cause g c =
    let p = err_from_is_err_and c.from_residual.result c.from_residual.ensures.1 in
    cause_err _ _ _ _ c.from_residual.result _ _ c.loop-op.invariant.later c.in_err-group.ensures.cause refl (p.1 ∙ ap Err p.2)

pub returns-in_err-add-clause-cause : goal.returns-in_err-add-clause-cause
returns-in_err-add-clause-cause g c =
    let p = err_from_is_err_and c.from_residual-in_err-add.result c.from_residual-in_err-add.ensures.1 in
    cause_memory _ _ c.from_residual-in_err-add.result (omega (arith, c.loop-op.invariant.later, c.in_ok-group.ensures.cause.later)) (p.1 ∙ ap Err (p.2 ∙ c.in_err-add.ensures.memory))

pub returns-clause-first : goal.returns-clause-first
returns-clause-first g c = record {
  ops = omega (arith, ap (λ (gs : List (List Holding)). length gs) c.of-2.ensures, c.loop-op.invariant.count);
  groups = λ o lt. ap (λ (gs : List (List Holding)). get_or gs o []) c.of-2.ensures ∙ c.loop-op.invariant.first o (omega (arith, lt));
}

pub returns-clause-cause : goal.returns-clause-cause
returns-clause-cause g c = cause_ok _ _ _ _ c.loop-op.invariant.later
