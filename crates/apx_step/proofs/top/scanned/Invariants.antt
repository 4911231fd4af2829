use Rattle.std.proofs.Common.{◌≡◌, take}
use Rattle.apx_order.specs.Sorted.{sorted}
use Rattle.apx_rules.specs.Step.{rank_order}
use Rattle.apx_step.specs.Places.{tuples_ranked}
use Rattle.apx_step.proofs.top.scanned.Given as goal

abbrev pub invariant-loop-tuple : goal.invariant-loop-tuple
invariant-loop-tuple l = tuples_ranked l.first.items ≡ take l.k (sorted rank_order (take l.tuple-index l.tuples))
