use Rattle.std.proofs.Common.{◌≡◌, ℕ, ◌<◌, ◌≤◌, [], length, replicate, get_or}
use Rattle.apx_history.specs.State.{oper}
use Rattle.apx_held.specs.Begun.{first_holding}
use Rattle.apx_held.proofs.beginning.begin.Given as goal

abbrev pub invariant-loop-op : goal.invariant-loop-op
invariant-loop-op g l = record {
  count : length l.groups.items ≡ l.op;
  first : (o : ℕ) → o < l.op → get_or l.groups.items o [] ≡ replicate (length (oper l.fn.machine.state o).parts) (first_holding l.plan);
  later : g.P.Spools.faults l.initial.spools ≤ g.P.Spools.faults l.spools;
}
