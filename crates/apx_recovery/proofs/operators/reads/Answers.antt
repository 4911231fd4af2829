use Rattle.std.proofs.Common.{◌==◌, ap, ◌∙◌}
use Rattle.std.specs.List.{list_any}
use Rattle.apx_pass.specs.Graph.{Node}
use Rattle.apx_pass.specs.Order.{sources_of}
use Rattle.apx_recovery.proofs.operators.reads.Goals as goal

pub returns : goal.returns
returns c = c.any_source.ensures (λ n. c.args.source == n)
    (ap (λ (n : Node). c.args.source == n.left) c.node.view_is) (ap (λ (n : Node). c.args.source == n.right) c.node.view_is)
    ∙ ap (λ (node : Node). list_any (λ n. c.args.source == n) (sources_of node.role node.left node.right)) c.node-node.ensures
