use Rattle.std.proofs.Common.{◌≡◌, ◌<◌, take}
use Rattle.apx_tuple.specs.Size.{size_by}
use Rattle.apx_tuple.specs.State.{pair_key}
use Rattle.apx_tuple.proofs.size.pairs_size.Given as goal

abbrev pub invariant-loop-pair : goal.invariant-loop-pair
invariant-loop-pair l = (l.size ≡ size_by pair_key (take l.pair-index l.pairs)) × (l.size < 4294967232)
