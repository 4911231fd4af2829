use Rattle.std.proofs.Common.{◌≡◌, ◌≤◌}
use Rattle.apx_pass.specs.Pass.{inputs_before}
use Rattle.apx_dag.proofs.dag.Dag.inputs_before.Given as goal

abbrev pub invariant-loop-other : goal.invariant-loop-other
invariant-loop-other l = (l.count ≡ inputs_before l.self l.other) × (l.count ≤ l.other)
