use Rattle.std.proofs.Common.{◌≡◌, take}
use Rattle.apx_step.specs.Places.{tuples_ranked}
use Rattle.apx_step.proofs.top.copied.Given as goal

abbrev pub invariant-loop-place : goal.invariant-loop-place
invariant-loop-place l = l.tuples.items ≡ tuples_ranked (take l.place-index l.ranked)
