use Rattle.apx_dag.proofs.Going.{can-go}
use Rattle.apx_dag.proofs.Ordering.{order-is}
use Rattle.apx_dag.proofs.dag.Dag.order.Goals as goal

pub returns-clause-same : goal.returns-clause-same
returns-clause-same c = rw (c.deref.ensures.value, ← c.self.view_is) (order-is _ _ c.self.invariant.ordered)

pub returns-clause-goes : goal.returns-clause-goes
returns-clause-goes c = rw (c.deref.ensures.value, ← c.self.view_is) (can-go _ _ c.self.invariant.ordered)
