use Rattle.std.proofs.Common.{◌≡◌, ◌++◌, map}
use Rattle.apx_step.specs.Walk.{pair_tuple}
use Rattle.apx_fold.proofs.digest.tuples_of.Given as goal

abbrev pub invariant-loop-key : goal.invariant-loop-key
invariant-loop-key l = l.tuples.items ++ map pair_tuple l.key-iterator ≡ map pair_tuple l.fn.state
