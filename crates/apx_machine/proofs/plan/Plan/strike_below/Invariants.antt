use Rattle.std.proofs.Common.{◌≡◌, ℕ, ◌<◌, ◌≤◌, ◌&&◌, not, false, get_or}
use Rattle.apx_history.specs.Plan.{below}
use Rattle.apx_machine.proofs.plan.Plan.strike_below.Given as goal

abbrev pub invariant-loop-op : goal.invariant-loop-op
invariant-loop-op l = record {
  done : (o : ℕ) → o < l.op → get_or l.clear o false ≡ (not (below l.self l.above o) && get_or l.initial.clear o false);
  rest : (o : ℕ) → l.op ≤ o → get_or l.clear o false ≡ get_or l.initial.clear o false;
}
