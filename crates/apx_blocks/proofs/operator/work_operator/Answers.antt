use Rattle.std.proofs.Common.{◌≡◌, ℕ, ◌-◌, ◌<◌, cond, List, [], length, map, get_or, sym, ap, subst, ◌∙◌, inl}
use Rattle.std.specs.Prelude.{Err}
use Rattle.apx_dag.specs.Valid.{IsGraph}
use Rattle.apx_list.specs.declared.block.Block.{Block}
use Rattle.apx_part.specs.Fed.{plan_in, AreWindows, given_in}
use Rattle.apx_pass.specs.Graph.{Node, node_at}
use Rattle.apx_pass.specs.Pass.{progress_after}
use Rattle.apx_rules.specs.Parts.{of_parts}
use Rattle.apx_shares.specs.Carried.{cut_progress}
use Rattle.apx_shares.proofs.Ordered.{carried-is-ordered}
use Rattle.apx_tuple.specs.declared.refusal.Short.{Short}
use Rattle.apx_blocks.specs.Came.{reads_left, reads_right, came_left, came_right}
use Rattle.apx_blocks.proofs.Cutting.{cuts-into}
use Rattle.apx_blocks.proofs.Feeding.{port-comes}
use Rattle.apx_blocks.proofs.operator.work_operator.Goals as goal

pub cut_anew-requires-clause-cuts : goal.cut_anew-requires-clause-cuts
cut_anew-requires-clause-cuts c =
    let job = c.args.job.now in
    let graph : IsGraph job.flow.nodes = subst (λ (ns : List Node). IsGraph ns) c.dag.ensures c.len.ensures.valid in (
      progress_after job.flow (c.args.window - 1) c.args.op,
      carried-is-ordered job.flow (c.args.window - 1) c.args.op,
      cuts-into job c.windows.ensures.job graph (c.args.window - 1) c.args.op c.requires.op c.args.parts c.requires.parts,
    )

pub returns-in_err-parts-clause-large : goal.returns-in_err-parts-clause-large
returns-in_err-parts-clause-large c = λ refused.
    let job = c.args.job.now in
    let graph : IsGraph job.flow.nodes = subst (λ (ns : List Node). IsGraph ns) c.dag.ensures c.len.ensures.valid in
    let q = rw refused at c.from_residual.ensures.1 in
    let is = ap (λ (e : Short). Err e) (sym q) in
    inl (c.in_err-parts.ensures.large (progress_after job.flow (c.args.window - 1) c.args.op) (carried-is-ordered job.flow (c.args.window - 1) c.args.op)
    (cuts-into job c.windows.ensures.job graph (c.args.window - 1) c.args.op c.requires.op c.args.parts c.requires.parts) is)

pub left_blocks-left-requires-clause-there : goal.left_blocks-left-requires-clause-there
left_blocks-left-requires-clause-there c = λ e.
    let node : c.node-node.result.now ≡ node_at c.args.job.now.flow.nodes c.args.op = c.node-node.ensures ∙ ap (λ (ns : List Node). node_at ns c.args.op) c.dag-dag.ensures in
    subst (λ (x : Node). x.left < length c.args.sent.now) (sym node) (c.requires.left (ap (λ (x : Node). reads_left x.role) (sym node) ∙ e)).0

pub right_blocks-right-requires-clause-there : goal.right_blocks-right-requires-clause-there
right_blocks-right-requires-clause-there c = λ e.
    let node : c.node-node.result.now ≡ node_at c.args.job.now.flow.nodes c.args.op = c.node-node.ensures ∙ ap (λ (ns : List Node). node_at ns c.args.op) c.dag-dag.ensures in
    subst (λ (x : Node). x.right < length c.args.sent.now) (sym node) (c.requires.right (ap (λ (x : Node). reads_right x.role) (sym node) ∙ e)).0

pub work_parts-requires-clause-parts : goal.work_parts-requires-clause-parts
work_parts-requires-clause-parts c =
    let job = c.args.job.now in
    let graph : IsGraph job.flow.nodes = subst (λ (ns : List Node). IsGraph ns) c.dag.ensures c.len.ensures.valid in
    let before = progress_after job.flow (c.args.window - 1) c.args.op in
    let cuts = c.in_ok-parts.ensures.ok before (carried-is-ordered job.flow (c.args.window - 1) c.args.op) (cuts-into job c.windows.ensures.job graph (c.args.window - 1) c.args.op c.requires.op c.args.parts c.requires.parts) in
    cuts ∙ ap (λ (n : ℕ). of_parts n (λ i. cut_progress n i before)) c.parts_in-n.ensures.force

pub work_parts-requires-clause-left : goal.work_parts-requires-clause-left
work_parts-requires-clause-left c =
    let job = c.args.job.now in
    let o = c.args.op in
    let node : c.node-node.result.now ≡ node_at job.flow.nodes o = c.node-node.ensures ∙ ap (λ (ns : List Node). node_at ns o) c.dag-dag.ensures in
    let is : cond (reads_left (node_at job.flow.nodes o).role) (get_or c.args.sent.now (node_at job.flow.nodes o).left []) [] ≡ map (λ list. list.items) c.left_blocks-left.result.now =
    ap (λ (x : Node). cond (reads_left x.role) (get_or c.args.sent.now x.left []) []) (sym node) ∙ sym c.left_blocks-left.ensures in
    subst (λ (ls : List (List Block)). AreWindows (plan_in job) c.args.window ls (came_left job c.args.window o)) is
    (port-comes (plan_in job) c.args.window (reads_left (node_at job.flow.nodes o).role) (get_or c.args.sent.now (node_at job.flow.nodes o).left []) (given_in job c.args.window (node_at job.flow.nodes o).left) (λ e. (c.requires.left e).1))

pub work_parts-requires-clause-right : goal.work_parts-requires-clause-right
work_parts-requires-clause-right c =
    let job = c.args.job.now in
    let o = c.args.op in
    let node : c.node-node.result.now ≡ node_at job.flow.nodes o = c.node-node.ensures ∙ ap (λ (ns : List Node). node_at ns o) c.dag-dag.ensures in
    let is : cond (reads_right (node_at job.flow.nodes o).role) (get_or c.args.sent.now (node_at job.flow.nodes o).right []) [] ≡ map (λ list. list.items) c.right_blocks-right.result.now =
    ap (λ (x : Node). cond (reads_right x.role) (get_or c.args.sent.now x.right []) []) (sym node) ∙ sym c.right_blocks-right.ensures in
    subst (λ (ls : List (List Block)). AreWindows (plan_in job) c.args.window ls (came_right job c.args.window o)) is
    (port-comes (plan_in job) c.args.window (reads_right (node_at job.flow.nodes o).role) (get_or c.args.sent.now (node_at job.flow.nodes o).right []) (given_in job c.args.window (node_at job.flow.nodes o).right) (λ e. (c.requires.right e).1))
