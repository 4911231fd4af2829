use Rattle.std.proofs.Common.{◌≡◌, ℕ, ◌<◌, false}
use Rattle.apx_dag.specs.Order.{link_at}
use Rattle.apx_dag.specs.Marks.{mark_at, IsUnmarked}
use Rattle.apx_dag.proofs.order.next_ready.Given as goal

abbrev pub invariant-loop-i : goal.invariant-loop-i
invariant-loop-i l = (i : ℕ) → i < l.i → mark_at l.placed i ≡ false → (a : ℕ) × IsUnmarked l.placed (link_at l.links i) a
