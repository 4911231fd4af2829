use Rattle.std.proofs.Common.{◌≡◌, ◌<◌, ◌^◌}
use Rattle.apx_tuple.specs.Key.{first_bytes}
use Rattle.apx_tuple.proofs.key.front_of.Given as goal

abbrev pub invariant-loop-place : goal.invariant-loop-place
invariant-loop-place l = (l.front ≡ first_bytes l.place l.bytes) × (l.front < 256 ^ l.place)
