use Rattle.std.proofs.Common.{take, arith}
use Rattle.apx_step.proofs.Ranking.{scan-nothing, scan-ascends, scan-more}
use Rattle.apx_step.proofs.top.scanned.Goals as goal

pub loop-tuple-init : goal.loop-tuple-init
loop-tuple-init c = scan-nothing c.args.k _ c.new-first.ensures.items

pub with_tuple-requires-clause-ascends : goal.with_tuple-requires-clause-ascends
with_tuple-requires-clause-ascends c = scan-ascends c.args.k (take c.loop-tuple.tuple-index c.args.tuples.now) _ c.loop-tuple.invariant

pub loop-tuple-preserved : goal.loop-tuple-preserved
loop-tuple-preserved c =
    scan-more c.args.k c.loop-tuple.tuple-index c.args.tuples.now c.tuple-item.result _ _ c.loop-tuple.invariant c.in_ok-first.ensures (omega arith) c.tuple-item.is
