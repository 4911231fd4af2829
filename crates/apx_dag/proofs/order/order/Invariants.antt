use Rattle.apx_dag.proofs.Marking.{unset}
use Rattle.apx_dag.proofs.Placing.{Placed}
use Rattle.apx_dag.proofs.order.order.Given as goal

abbrev pub invariant-loop-next : goal.invariant-loop-next
invariant-loop-next l = Placed l.links l.placed.items l.order.items

abbrev pub decreases-loop-next : goal.decreases-loop-next
decreases-loop-next l = unset l.placed.items
