use Rattle.std.proofs.Common.{length, arith}
use Rattle.apx_plan.proofs.Growing.{operators_more}
use Rattle.apx_plan.proofs.plan.append_operators.Goals as goal

pub loop-place-preserved : goal.loop-place-preserved
loop-place-preserved c =
    operators_more c.args.dag.now c.order-order.result.now c.loop-place.place c.node.result.now c.args.into.now.items c.loop-place.into.items c.append_operator.new.into.items (omega (arith, c.loop-place-test.true, c.len.ensures.len, c.order-order.ensures.goes.long, c.from-place-end.ensures)) c.node.ensures c.loop-place.invariant c.in_ok-append_operator.ensures.ok
