use Rattle.std.proofs.Common.{ℕ, ◌<◌}
use Rattle.apx_dag.specs.Order.{Reaches}
use Rattle.apx_dag.proofs.order.first_loop.Given as goal

abbrev pub invariant-loop-i : goal.invariant-loop-i
invariant-loop-i l = (i : ℕ) → i < l.i → ¬ Reaches l.links i i
