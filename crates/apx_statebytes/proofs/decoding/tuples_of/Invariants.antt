use Rattle.std.proofs.Common.{◌≡◌, map}
use Rattle.apx_statebytes.specs.Rows.{tuple_of}
use Rattle.apx_statebytes.proofs.decoding.tuples_of.Given as goal

abbrev pub invariant-loop-key : goal.invariant-loop-key
invariant-loop-key l = l.tuples.items ≡ map tuple_of l.yielded
