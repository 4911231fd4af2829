use Rattle.std.proofs.Common.{◌≡◌, ℕ, ◌<◌, get_or, false, slice_index}
use Rattle.apx_pass.specs.Order.{is_below}
use Rattle.apx_recovery.proofs.operators.mark.Given as goal

abbrev pub invariant-loop-place : goal.invariant-loop-place
invariant-loop-place l = (k : ℕ) → k < l.place → get_or l.marks (slice_index l.order k) false ≡ is_below l.dag l.above (slice_index l.order k)
