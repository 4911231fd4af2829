use Rattle.std.proofs.Common.{◌≡◌, ℕ, ◌<◌, List, length, ap, sym, subst, ◌∙◌, ◌⊎◌, rules}
use Rattle.std.specs.Prelude.{⊤}
use Rattle.std.specs.Bool.{MatchBool}
use Rattle.std.proofs.lemmas.Result.{err_from_is_err_and}
use Rattle.apx_dag.specs.Role.{role_view}
use Rattle.apx_job.specs.Job.{in_force}
use Rattle.apx_tuple.specs.declared.tuple.Tuple.{Tuple}
use Rattle.apx_tuple.specs.Kind.{has_right}
use Rattle.apx_tuple.specs.Size.{IsLarge}
use Rattle.apx_tuple.specs.Tuple.{tuple_key}
use Rattle.apx_pass.specs.Graph.{Role, Node, node_at}
use Rattle.apx_pass.specs.Pass.{Passed, at_start, input_at, rows_of_input}
use Rattle.apx_rules.specs.Parts.{merge_bags}
use Rattle.apx_shares.specs.Given.{unify_of}
use Rattle.apx_part.specs.Fed.{plan_in}
use Rattle.apx_part.specs.Made.{inner_of}
use Rattle.apx_part.proofs.Spelling.{blocks_in, windows-listed}
use Rattle.apx_part.proofs.Working.{inner-ports, sink-port, role-is, large-seen, input-made, inner-made, sink-made, inner-large, sink-large}
use Rattle.apx_part.proofs.window.work.Goals as goal

pub work_inner-requires-clause-left_source : goal.work_inner-requires-clause-left_source
work_inner-requires-clause-left_source c =
    let ports = inner-ports _ _ (node_at c.dag-dag.result.now c.args.id.op).role c.in-Inner.kind (ap (λ (x : Node). x.role) (sym c.node-node.ensures) ∙ (ap (λ (x : Node). x.role) (sym c.node.view_is) ∙ ap role_view c.in-Inner.is)) c.known.ensures.sources in
    subst (λ (x : Node). x.left < length c.dag-dag.result.now) (sym c.node-node.ensures) ports.0

pub work_inner-requires-clause-right_source : goal.work_inner-requires-clause-right_source
work_inner-requires-clause-right_source c =
    let ports = inner-ports _ _ (node_at c.dag-dag.result.now c.args.id.op).role c.in-Inner.kind (ap (λ (x : Node). x.role) (sym c.node-node.ensures) ∙ (ap (λ (x : Node). x.role) (sym c.node.view_is) ∙ ap role_view c.in-Inner.is)) c.known.ensures.sources in
    subst (λ (x : Node). MatchBool (has_right c.in-Inner.kind) (x.right < length c.dag-dag.result.now) ⊤) (sym c.node-node.ensures) ports.1

pub work_inner-requires-clause-left : goal.work_inner-requires-clause-left
work_inner-requires-clause-left c = (plan_in c.args.job.now, c.requires.left.0, windows-listed (plan_in c.args.job.now) c.args.window (blocks_in c.args.left.now) c.requires.left.0 c.requires.left.1)

pub work_inner-requires-clause-right : goal.work_inner-requires-clause-right
work_inner-requires-clause-right c = (plan_in c.args.job.now, c.requires.right.0, windows-listed (plan_in c.args.job.now) c.args.window (blocks_in c.args.right.now) c.requires.right.0 c.requires.right.1)

pub returns-in_err-state-in-Inner-clause-large : goal.returns-in_err-state-in-Inner-clause-large
returns-in_err-state-in-Inner-clause-large c = λ lefts rights l r h.
    let p = err_from_is_err_and c.from_residual-in_err-state-in-Inner.result c.from_residual-in_err-state-in-Inner.ensures.1 in
    let plan = plan_in c.args.job.now in
    let large = c.in_err-state-in-Inner.ensures.large plan lefts rights (windows-listed plan c.args.window (blocks_in c.args.left.now) lefts l) (windows-listed plan c.args.window (blocks_in c.args.right.now) rights r) (let is = p.1 in let gives = p.2 in cc) in
    let node : c.node-node.result.now ≡ node_at c.args.job.now.flow.nodes c.args.id.op = c.node-node.ensures ∙ ap (λ (ns : List Node). node_at ns c.args.id.op) c.dag-dag.ensures in
    inner-large c.args.job.now c.args.id.op c.args.id.part c.args.window c.args.progress lefts rights c.in-Inner.kind (role-is c.args.job.now.flow.nodes c.dag-dag.result.now c.args.id.op c.node-node.result.now _ _ c.dag-dag.ensures c.node-node.ensures c.node.view_is (ap role_view c.in-Inner.is))
    (large-seen c.in-Inner.kind _ _ _ _ _ _ c.args.id.part c.args.window c.args.progress lefts rights c.dag-dag.ensures node c.parts_in-n.ensures.force large)

pub unified-requires-clause-source : goal.unified-requires-clause-source
unified-requires-clause-source c =
    let port = sink-port _ _ (node_at c.dag-dag.result.now c.args.id.op).role (ap (λ (x : Node). x.role) (sym c.node-node.ensures) ∙ (ap (λ (x : Node). x.role) (sym c.node.view_is) ∙ ap role_view c.in-Sink.is)) c.known.ensures.sources in
    subst (λ (k : ℕ). k < length c.dag-dag.result.now) (sym (ap (λ (x : Node). x.left) c.node.view_is ∙ ap (λ (x : Node). x.left) c.node-node.ensures)) port

pub unified-requires-clause-listed : goal.unified-requires-clause-listed
unified-requires-clause-listed c = (plan_in c.args.job.now, c.requires.left.0, windows-listed (plan_in c.args.job.now) c.args.window (blocks_in c.args.left.now) c.requires.left.0 c.requires.left.1)

pub returns-in_err-unified-in-Sink-clause-large : goal.returns-in_err-unified-in-Sink-clause-large
returns-in_err-unified-in-Sink-clause-large c = λ lefts rights l r h.
    let p = err_from_is_err_and c.from_residual-in_err-unified-in-Sink.result c.from_residual-in_err-unified-in-Sink.ensures.1 in
    let plan = plan_in c.args.job.now in
    let left : c.node.inside.left ≡ (node_at c.args.job.now.flow.nodes c.args.id.op).left = ap (λ (x : Node). x.left) c.node.view_is ∙ (ap (λ (x : Node). x.left) c.node-node.ensures ∙ ap (λ (ns : List Node). (node_at ns c.args.id.op).left) c.dag-dag.ensures) in
    let source : (node_at c.dag-dag.result.now c.node.inside.left).role ≡ (node_at c.args.job.now.flow.nodes (node_at c.args.job.now.flow.nodes c.args.id.op).left).role = λ j. (node_at (c.dag-dag.ensures j) (left j)).role in
    let large = c.in_err-unified-in-Sink.ensures.large plan lefts (windows-listed plan c.args.window (blocks_in c.args.left.now) lefts l) (let is = p.1 in let gives = p.2 in cc) in
    sink-large c.args.job.now c.args.id.op c.args.id.part c.args.window c.args.progress lefts rights
    (subst (λ (role : Role). IsLarge tuple_key (merge_bags lefts) ⊎ IsLarge tuple_key (unify_of role lefts)) source large)

pub returns-in_ok-cut_rows-in-Input-clause-ok : goal.returns-in_ok-cut_rows-in-Input-clause-ok
returns-in_ok-cut_rows-in-Input-clause-ok c = λ lefts rights l r.
    let state : c.in_ok-cut_rows-in-Input.field-0.state ≡ at_start = search (rules, c.in_ok-cut_rows-in-Input.ensures.made.0) in
    let rows : c.in_ok-cut_rows-in-Input.field-0.rows ≡ rows_of_input (input_at c.args.job.now.flow c.args.id.op) c.args.window = search (rules, c.in_ok-cut_rows-in-Input.ensures.made.1) in
    input-made c.args.job.now c.args.id.op c.args.id.part c.args.window c.args.progress lefts rights _ _ _ _ _ _ (role-is c.args.job.now.flow.nodes c.dag-dag.result.now c.args.id.op c.node-node.result.now _ _ c.dag-dag.ensures c.node-node.ensures c.node.view_is (ap role_view c.in-Input.is))
    state rows c.in_ok-cut_rows-in-Input.ensures.blocks

pub returns-in_ok-cut_rows-in-Inner-clause-ok : goal.returns-in_ok-cut_rows-in-Inner-clause-ok
returns-in_ok-cut_rows-in-Inner-clause-ok c = λ lefts rights l r.
    let plan = plan_in c.args.job.now in
    let made = c.in_ok-state-in-Inner.ensures.ok plan lefts rights (windows-listed plan c.args.window (blocks_in c.args.left.now) lefts l) (windows-listed plan c.args.window (blocks_in c.args.right.now) rights r) in
    let node : c.node-node.result.now ≡ node_at c.args.job.now.flow.nodes c.args.id.op = c.node-node.ensures ∙ ap (λ (ns : List Node). node_at ns c.args.id.op) c.dag-dag.ensures in
    let same : inner_of c.in-Inner.kind c.dag-dag.result.now c.node-node.result.now c.parts_in-n.result c.args.id.part c.args.window c.args.progress lefts rights
    ≡ inner_of c.in-Inner.kind c.args.job.now.flow.nodes (node_at c.args.job.now.flow.nodes c.args.id.op) (in_force c.args.job.now c.args.id.op c.args.window) c.args.id.part c.args.window c.args.progress lefts rights =
    λ j. inner_of c.in-Inner.kind (c.dag-dag.ensures j) (node j) (c.parts_in-n.ensures.force j) c.args.id.part c.args.window c.args.progress lefts rights in
    inner-made c.args.job.now c.args.id.op c.args.id.part c.args.window c.args.progress lefts rights _ _ _ c.in-Inner.kind (role-is c.args.job.now.flow.nodes c.dag-dag.result.now c.args.id.op c.node-node.result.now _ _ c.dag-dag.ensures c.node-node.ensures c.node.view_is (ap role_view c.in-Inner.is))
    (c.in_ok-cut_rows-in-Inner.ensures.made.0 ∙ (made.0 ∙ ap (λ (x : Passed). x.progress) same)) (c.in_ok-cut_rows-in-Inner.ensures.made.1 ∙ (made.1 ∙ ap (λ (x : Passed). x.rows) same)) c.in_ok-cut_rows-in-Inner.ensures.blocks

pub returns-in_ok-unified-in-Sink-clause-ok : goal.returns-in_ok-unified-in-Sink-clause-ok
returns-in_ok-unified-in-Sink-clause-ok c = λ lefts rights l r.
    let plan = plan_in c.args.job.now in
    let left : c.node.inside.left ≡ (node_at c.args.job.now.flow.nodes c.args.id.op).left = ap (λ (x : Node). x.left) c.node.view_is ∙ (ap (λ (x : Node). x.left) c.node-node.ensures ∙ ap (λ (ns : List Node). (node_at ns c.args.id.op).left) c.dag-dag.ensures) in
    let source : (node_at c.dag-dag.result.now c.node.inside.left).role ≡ (node_at c.args.job.now.flow.nodes (node_at c.args.job.now.flow.nodes c.args.id.op).left).role = λ j. (node_at (c.dag-dag.ensures j) (left j)).role in
    let rows = c.in_ok-unified-in-Sink.ensures.ok plan lefts (windows-listed plan c.args.window (blocks_in c.args.left.now) lefts l) in
    sink-made c.args.job.now c.args.id.op c.args.id.part c.args.window c.args.progress lefts rights _ _ _ (role-is c.args.job.now.flow.nodes c.dag-dag.result.now c.args.id.op c.node-node.result.now _ _ c.dag-dag.ensures c.node-node.ensures c.node.view_is (ap role_view c.in-Sink.is)) c.new-in-Sink.ensures
    (rows ∙ ap (λ (role : Role). unify_of role lefts) source) (search rules)
