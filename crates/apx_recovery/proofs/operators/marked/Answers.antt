use Rattle.std.proofs.Common.{◌^◌, Bool, cond, get_or, false, ap, ◌∙◌, arith}
use Rattle.apx_recovery.proofs.Steps.{set_none, set_more, set_fits}
use Rattle.apx_recovery.proofs.operators.marked.Goals as goal

pub loop-op-init : goal.loop-op-init
loop-op-init c = set_none (λ o. get_or c.args.marks.now o false)

pub overflow_add-set : goal.overflow_add-set
overflow_add-set c =
    let fits = set_fits (λ o. get_or c.args.marks.now o false) c.loop-op.op c.loop-op.set c.bit-set.result (omega arith) c.loop-op.invariant
    (c.bit-set.ensures ∙ ap (λ (b : Bool). cond b (2 ^ c.loop-op.op) 0) c.is_marked.ensures) in
    omega arith

pub loop-op-preserved : goal.loop-op-preserved
loop-op-preserved c = set_more (λ o. get_or c.args.marks.now o false) c.loop-op.op c.loop-op.set c.bit-set.result c.loop-op.invariant
    (c.bit-set.ensures ∙ ap (λ (b : Bool). cond b (2 ^ c.loop-op.op) 0) c.is_marked.ensures)
