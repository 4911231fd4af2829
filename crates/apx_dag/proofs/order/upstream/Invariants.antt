use Rattle.std.proofs.Common.{◌≡◌, ℕ, true, length}
use Rattle.apx_dag.specs.Order.{Reaches}
use Rattle.apx_dag.specs.Marks.{mark_at}
use Rattle.apx_dag.proofs.Marking.{unset}
use Rattle.apx_dag.proofs.order.upstream.Given as goal

abbrev pub invariant-loop-source : goal.invariant-loop-source
invariant-loop-source l = (length l.marks.items ≡ length l.links) × ((a : ℕ) → mark_at l.marks.items a ≡ true → Reaches l.links a l.of)

abbrev pub decreases-loop-source : goal.decreases-loop-source
decreases-loop-source l = unset l.marks.items
