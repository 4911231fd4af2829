use Rattle.std.proofs.Common.{◌==◌, ◌||◌, false, get_or, ap, ◌∙◌}
use Rattle.std.specs.List.{list_any}
use Rattle.apx_pass.specs.Graph.{Node}
use Rattle.apx_pass.specs.Order.{sources_of}
use Rattle.apx_recovery.proofs.operators.reads_marked.Goals as goal

pub returns : goal.returns
returns c = c.any_source.ensures (λ n. c.args.above == n || get_or c.args.marks.now n false)
    (c.is_among-left.ensures ∙ ap (λ (n : Node). c.args.above == n.left || get_or c.args.marks.now n.left false) c.node.view_is)
    (c.is_among-right.ensures ∙ ap (λ (n : Node). c.args.above == n.right || get_or c.args.marks.now n.right false) c.node.view_is)
    ∙ ap (λ (node : Node). list_any (λ n. c.args.above == n || get_or c.args.marks.now n false) (sources_of node.role node.left node.right)) c.node-node.ensures
