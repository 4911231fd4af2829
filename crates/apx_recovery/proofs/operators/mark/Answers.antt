use Rattle.std.proofs.Common.{◌≡◌, ℕ, ◌<◌, false, get_or, slice_index, length, subst, ◌∙◌, arith}
use Rattle.apx_pass.specs.Order.{is_below}
use Rattle.apx_recovery.proofs.Marks.{marked_is, mark_step}
use Rattle.apx_recovery.proofs.operators.mark.Goals as goal

pub loop-place-preserved : goal.loop-place-preserved
loop-place-preserved c =
    let here : c.loop-place.place < length c.order-order.result.now = c.loop-place-test.true in
    let known = c.order-order.ensures.goes.known c.loop-place.place here in
    let fits : slice_index c.order-order.result.now c.loop-place.place < length c.loop-place.marks = (let r = c.requires in let m = c.loop-place.auto.marks in omega arith) in
    mark_step c.args.dag.now c.order-order.result.now c.order-order.ensures.goes c.args.above c.loop-place.marks c.loop-place.place here c.loop-place.invariant
    c.reads_marked-below.result fits
    (c.reads_marked-below.ensures ∙ marked_is c.args.dag.now c.order-order.result.now c.order-order.ensures.goes c.args.above c.loop-place.marks c.loop-place.place here c.loop-place.invariant)

pub returns-clause-marked : goal.returns-clause-marked
returns-clause-marked c = λ o h.
    (let b = c.order-order.ensures.goes.whole o h in
    let earlier : b.place < length c.order-order.result.now = b.earlier in
    let over = c.loop-place-test.false in
    subst (λ (q : ℕ). get_or c.loop-place.marks q false ≡ is_below c.args.dag.now c.args.above q) b.is (c.loop-place.invariant b.place (omega arith)))
