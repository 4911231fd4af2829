use Rattle.std.proofs.Common.{◌≡◌, take}
use Rattle.apx_step.specs.Places.{tuples_ranked}
use Rattle.apx_step.proofs.top.by_rank.Given as goal

abbrev pub invariant-loop-tuple : goal.invariant-loop-tuple
invariant-loop-tuple l = tuples_ranked l.ranked.items ≡ take l.tuple-index l.tuple-items
