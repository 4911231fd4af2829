use Rattle.std.proofs.Common.{List, ℕ, subst}
use Rattle.apx_dag.specs.Valid.{IsGraph}
use Rattle.apx_pass.specs.Graph.{Node}
use Rattle.apx_pass.specs.Order.{IsOrder}
use Rattle.apx_part.proofs.Parting.{window-is}
use Rattle.apx_part.proofs.window.work_window_of.Goals as goal

pub returns-clause-part : goal.returns-clause-part
returns-clause-part c = λ p fed.
    let left = c.requires.left in
    let right = c.requires.right in
    let graph : IsGraph c.args.job.now.flow.nodes = subst (λ (ns : List Node). IsGraph ns) c.dag.ensures c.len.ensures.valid in
    let ordered : IsOrder c.args.job.now.flow.nodes c.order.result.now = subst (λ (ns : List Node). IsOrder ns c.order.result.now) c.dag-2.ensures c.order.ensures.goes in
    window-is c.args.job.now c.order.result.now ordered graph c.windows.ensures.job c.args.id.op c.args.id.part c.args.window c.requires.low c.requires.op _ _
    c.args.progress p fed left.0 left.1 right.0 right.1 c.work.result c.work.ensures.ok
