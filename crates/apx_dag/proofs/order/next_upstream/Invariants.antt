use Rattle.std.proofs.Common.{◌≡◌, ℕ, ◌<◌, true}
use Rattle.apx_dag.specs.Order.{link_at}
use Rattle.apx_dag.specs.Marks.{mark_at, AreMarked}
use Rattle.apx_dag.proofs.order.next_upstream.Given as goal

abbrev pub invariant-loop-i : goal.invariant-loop-i
invariant-loop-i l = AreMarked l.marks (link_at l.links l.of) × ((b : ℕ) → b < l.i → mark_at l.marks b ≡ true → AreMarked l.marks (link_at l.links b))
