use Rattle.std.proofs.Common.{◌≡◌, ◌+◌}
use Rattle.apx_tuple.specs.Size.{size_by}
use Rattle.apx_tuple.specs.State.{pair_key}
use Rattle.apx_split.proofs.size.state_size.Given as goal

abbrev pub invariant-loop-key : goal.invariant-loop-key
invariant-loop-key l = l.size + size_by pair_key l.key-iterator ≡ size_by pair_key l.state
