use Rattle.std.proofs.Common.{◌^◌, Bool, cond, ap, ◌∙◌, arith}
use Rattle.apx_pass.specs.Order.{reads}
use Rattle.apx_recovery.proofs.Steps.{set_none, set_more, set_fits}
use Rattle.apx_recovery.proofs.operators.readers.Goals as goal

pub loop-reader-init : goal.loop-reader-init
loop-reader-init c = set_none (λ o. reads c.args.dag.now o c.args.op)

pub overflow_add-set : goal.overflow_add-set
overflow_add-set c =
    let fits = set_fits (λ o. reads c.args.dag.now o c.args.op) c.loop-reader.reader c.loop-reader.set c.bit-set.result (omega arith) c.loop-reader.invariant
    (c.bit-set.ensures ∙ ap (λ (b : Bool). cond b (2 ^ c.loop-reader.reader) 0) c.reads.ensures) in
    omega arith

pub loop-reader-preserved : goal.loop-reader-preserved
loop-reader-preserved c = set_more (λ o. reads c.args.dag.now o c.args.op) c.loop-reader.reader c.loop-reader.set c.bit-set.result c.loop-reader.invariant
    (c.bit-set.ensures ∙ ap (λ (b : Bool). cond b (2 ^ c.loop-reader.reader) 0) c.reads.ensures)
