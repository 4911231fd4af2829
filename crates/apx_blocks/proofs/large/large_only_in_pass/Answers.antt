use Rattle.std.proofs.Common.{List, subst}
use Rattle.apx_dag.specs.Valid.{IsGraph}
use Rattle.apx_pass.specs.Graph.{Node}
use Rattle.apx_pass.specs.Order.{IsOrder}
use Rattle.apx_blocks.proofs.Wholly.{at-window}
use Rattle.apx_blocks.proofs.large.large_only_in_pass.Goals as goal

pub returns : goal.returns
returns c = λ w o low high there large.
    let job = c.args.job.now in
    let order = c.order.result.now in
    let graph : IsGraph job.flow.nodes = subst (λ (ns : List Node). IsGraph ns) c.dag-dag.ensures c.len.ensures.valid in
    let ordered : IsOrder job.flow.nodes order = subst (λ (ns : List Node). IsOrder ns order) c.dag-dag.ensures c.order.ensures.goes in
    at-window job c.windows.ensures.job graph order ordered c.keys_are_short.ensures w o low high there large
