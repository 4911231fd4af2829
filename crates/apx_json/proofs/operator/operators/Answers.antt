use Rattle.std.proofs.lemmas.Result.{err_from_is_err_and}
use Rattle.serde_json.specs.View.{items_view}
use Rattle.apx_json.specs.Shape.{operator_at, each_at}
use Rattle.apx_json.proofs.Lists.{goes_on, ends, is_done}
use Rattle.apx_json.proofs.operator.operators.Goals as goal

pub loop-i-preserved : goal.loop-i-preserved
loop-i-preserved c =
    let values = c.args.list.now.items in
    rw c.in_ok-push.ensures.items (goes_on (operator_at) c.loop-i.operators.items values c.loop-i.i c.value-item.result c.in_ok-operator.field-0 (each_at (operator_at) 0 (items_view values)) (rw (← c.deref-value-items.ensures.value) c.loop-i-test.true) (rw (← c.deref-value-items.ensures.value) c.value-item.is) c.in_ok-operator.ensures c.loop-i.invariant)

pub returns-in_err-operator : goal.returns-in_err-operator
returns-in_err-operator c =
    let values = c.args.list.now.items in
    let p = err_from_is_err_and c.from_residual.result c.from_residual.ensures.1 in
    rw (p.1, p.2) (ends c.in_err-operator.field-0.0 (operator_at) c.loop-i.operators.items values c.loop-i.i c.value-item.result (each_at (operator_at) 0 (items_view values)) (rw (← c.deref-value-items.ensures.value) c.loop-i-test.true) (rw (← c.deref-value-items.ensures.value) c.value-item.is) c.in_err-operator.ensures c.loop-i.invariant)

pub returns : goal.returns
returns c =
    let values = c.args.list.now.items in
    is_done (operator_at) c.loop-i.operators.items values c.loop-i.i (each_at (operator_at) 0 (items_view values)) (rw (← c.deref-value-items.ensures.value) c.loop-i-test.false) c.loop-i.invariant
