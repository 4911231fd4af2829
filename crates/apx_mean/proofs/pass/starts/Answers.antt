use Rattle.std.proofs.Common.{refl, arith}
use Rattle.apx_pass.specs.Pass.{at_start}
use Rattle.apx_mean.proofs.Turn.{map-one-more}
use Rattle.apx_mean.proofs.pass.starts.Goals as goal

pub loop-operator-preserved : goal.loop-operator-preserved
loop-operator-preserved c = map-one-more (λ _. at_start) c.args.order.now c.loop-operator._operator-index _ _ c.loop-operator.progress.items _ (omega arith) refl c.loop-operator.invariant c.new.ensures c.in_ok-push.ensures.items
