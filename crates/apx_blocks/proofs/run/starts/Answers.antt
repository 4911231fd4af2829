use Rattle.std.proofs.Common.{refl, arith}
use Rattle.apx_blocks.specs.Carried.{parts_after}
use Rattle.apx_blocks.proofs.Working.{map-one-more}
use Rattle.apx_blocks.proofs.Cutting.{nothing-carried}
use Rattle.apx_blocks.proofs.run.starts.Goals as goal

pub loop-operator-preserved : goal.loop-operator-preserved
loop-operator-preserved c = λ job.
    map-one-more (parts_after job 0) c.args.order.now c.loop-operator._operator-index _ _ c.loop-operator.all.items _ (omega arith) refl (c.loop-operator.invariant job)
    (nothing-carried job _ _ _ _ c.new.ensures c.new-parts.ensures.items c.in_ok-push.ensures.items) c.in_ok-push-2.ensures.items
