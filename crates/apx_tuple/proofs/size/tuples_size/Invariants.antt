use Rattle.std.proofs.Common.{◌≡◌, ◌<◌, take}
use Rattle.apx_tuple.specs.Size.{size_by}
use Rattle.apx_tuple.specs.Tuple.{tuple_key}
use Rattle.apx_tuple.proofs.size.tuples_size.Given as goal

abbrev pub invariant-loop-tuple : goal.invariant-loop-tuple
invariant-loop-tuple l = (l.size ≡ size_by tuple_key (take l.tuple-index l.tuples)) × (l.size < 4294967232)
