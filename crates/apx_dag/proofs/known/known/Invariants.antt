use Rattle.std.proofs.Common.{◌≡◌}
use Rattle.apx_dag.proofs.known.known.Given as goal

abbrev pub invariant-loop-text : goal.invariant-loop-text
invariant-loop-text l = l.operators.items ≡ l.yielded
