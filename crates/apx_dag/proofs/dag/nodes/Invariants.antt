use Rattle.apx_dag.proofs.Building.{Built}
use Rattle.apx_dag.proofs.dag.nodes.Given as goal

abbrev pub invariant-loop-i : goal.invariant-loop-i
invariant-loop-i l = Built l.app l.i l.nodes.entries
