use Rattle.std.proofs.Common.{◌≡◌, ◌≤◌, replicate}
use Rattle.apx_held.specs.Begun.{first_holding}
use Rattle.apx_held.proofs.beginning.first_group.Given as goal

abbrev pub invariant-loop-done : goal.invariant-loop-done
invariant-loop-done g l = record {
  first : l.parts.items ≡ replicate l.done (first_holding l.plan);
  later : g.P.Spools.faults l.initial.spools ≤ g.P.Spools.faults l.spools;
}
