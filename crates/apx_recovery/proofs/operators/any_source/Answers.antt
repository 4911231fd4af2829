use Rattle.std.proofs.Common.{◌≡◌, Bool, ◌||◌, ◌&&◌, sym, ap, ◌∙◌}
use Rattle.std.specs.List.{list_any}
use Rattle.apx_tuple.specs.Kind.{has_right}
use Rattle.apx_pass.specs.Graph.{Role, Inner, Node}
use Rattle.apx_pass.specs.Order.{sources_of}
use Rattle.apx_dag.specs.Role.{role_view}
use Rattle.apx_recovery.proofs.Marks.{inner_any}
use Rattle.apx_recovery.proofs.operators.any_source.Goals as goal

pub returns-in-Inner : goal.returns-in-Inner
unfolding sources_of
returns-in-Inner c = λ p l r.
    (let e : c.args.node.now.role ≡ Inner c.in-Inner.kind = sym (ap (λ (n : Node). n.role) c.node.view_is) ∙ ap role_view c.in-Inner.is in
    c.either.ensures ∙ ap (λ (b : Bool). c.args.left || (b && c.args.right)) c.has_right.ensures
    ∙ ap (λ (b : Bool). b || (has_right c.in-Inner.kind && c.args.right)) l
    ∙ ap (λ (b : Bool). p c.args.node.now.left || (has_right c.in-Inner.kind && b)) r
    ∙ inner_any p c.args.node.now.left c.args.node.now.right (has_right c.in-Inner.kind)
    ∙ ap (λ (role : Role). list_any p (sources_of role c.args.node.now.left c.args.node.now.right)) (sym e))
