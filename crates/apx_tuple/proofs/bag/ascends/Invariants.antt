use Rattle.std.specs.List.{AllAdjacentBelow}
use Rattle.apx_tuple.proofs.Orders.{IsStep}
use Rattle.apx_tuple.proofs.bag.ascends.Given as goal

abbrev pub invariant-loop-place : goal.invariant-loop-place
invariant-loop-place l = AllAdjacentBelow IsStep l.tuples l.place
