use Rattle.std.proofs.Common.{rules, ◌≡◌, ℕ, length, List, slice_index, true, false, subst, sym, ap, ◌∙◌}
use Rattle.std.proofs.lemmas.Result.{IfOk-weaker}
use Rattle.apx_pass.specs.Graph.{node_at}
use Rattle.apx_dag.specs.Role.{role_view}
use Rattle.apx_mean.specs.Kept.{AreKept}
use Rattle.apx_mean.proofs.Coming.{reads-input, reads-sink, reads-one, reads-both, behind-sink, behind-left, behind-right, come-input, come-sink, come-one, come-both}
use Rattle.apx_mean.proofs.came.came.Goals as goal

pub came_both-requires-clause-left : goal.came_both-requires-clause-left
came_both-requires-clause-left c =
    let count : c.len.result ≡ length c.args.rows.now.items = search rules in
    let e = c.node.view_is ∙ c.node-node.ensures ∙ ap (λ k. node_at c.args.dag.now (slice_index c.args.order.now k)) count in
    behind-left _ _ c.requires.order _ c.requires.long _ e c.in-Inner.kind (ap role_view c.in-Inner.is)

pub came_both-requires-clause-right : goal.came_both-requires-clause-right
came_both-requires-clause-right c =
    let count : c.len.result ≡ length c.args.rows.now.items = search rules in
    let e = c.node.view_is ∙ c.node-node.ensures ∙ ap (λ k. node_at c.args.dag.now (slice_index c.args.order.now k)) count in
    behind-right _ _ c.requires.order _ c.requires.long _ e c.in-Inner.kind (ap role_view c.in-Inner.is) (sym c.has_right.ensures ∙ c.if-has_right.true)

pub came_one-requires-clause-there : goal.came_one-requires-clause-there
came_one-requires-clause-there c =
    let count : c.len.result ≡ length c.args.rows.now.items = search rules in
    let e = c.node.view_is ∙ c.node-node.ensures ∙ ap (λ k. node_at c.args.dag.now (slice_index c.args.order.now k)) count in
    behind-left _ _ c.requires.order _ c.requires.long _ e c.in-Inner.kind (ap role_view c.in-Inner.is)

pub came_one-requires-in-Sink-clause-there : goal.came_one-requires-in-Sink-clause-there
came_one-requires-in-Sink-clause-there c =
    let count : c.len.result ≡ length c.args.rows.now.items = search rules in
    let e = c.node.view_is ∙ c.node-node.ensures ∙ ap (λ k. node_at c.args.dag.now (slice_index c.args.order.now k)) count in
    behind-sink _ _ c.requires.order _ c.requires.long _ e (ap role_view c.in-Sink.is)

pub returns-in-Input-clause-came : goal.returns-in-Input-clause-came
returns-in-Input-clause-came c = λ gives before.
    let count : c.len.result ≡ length c.args.rows.now.items = search rules in
    let e = c.node.view_is ∙ c.node-node.ensures ∙ ap (λ k. node_at c.args.dag.now (slice_index c.args.order.now k)) count in
    come-input _ _ c.requires.order _ c.requires.long _ e gives _ _ c.in-Input.kind _ c.in-Input.per_window (ap role_view c.in-Input.is)

pub returns-in-Inner-clause-came : goal.returns-in-Inner-clause-came
returns-in-Inner-clause-came c = λ gives before.
    let count : c.len.result ≡ length c.args.rows.now.items = search rules in
    let e = c.node.view_is ∙ c.node-node.ensures ∙ ap (λ k. node_at c.args.dag.now (slice_index c.args.order.now k)) count in
    let now = subst (λ (xs : List ℕ). AreKept gives c.args.order.now c.args.sink xs c.args.rows.now.items) (reads-both _ _ c.requires.order _ c.requires.long _ e c.in-Inner.kind (ap role_view c.in-Inner.is) (sym c.has_right.ensures ∙ c.if-has_right.true)) before in
    IfOk-weaker c.came_both.result _ _ (λ r p. come-both _ _ c.requires.order _ c.requires.long _ e gives r.0 r.1 c.in-Inner.kind (ap role_view c.in-Inner.is) (sym c.has_right.ensures ∙ c.if-has_right.true) p.0 p.1) (c.came_both.ensures.came gives now)

pub returns-in-Inner-clause-kept : goal.returns-in-Inner-clause-kept
returns-in-Inner-clause-kept c = λ gives before.
    let count : c.len.result ≡ length c.args.rows.now.items = search rules in
    let e = c.node.view_is ∙ c.node-node.ensures ∙ ap (λ k. node_at c.args.dag.now (slice_index c.args.order.now k)) count in
    let now = subst (λ (xs : List ℕ). AreKept gives c.args.order.now c.args.sink xs c.args.rows.now.items) (reads-both _ _ c.requires.order _ c.requires.long _ e c.in-Inner.kind (ap role_view c.in-Inner.is) (sym c.has_right.ensures ∙ c.if-has_right.true)) before in
    c.came_both.ensures.kept gives now

pub returns-in-Inner-2-clause-came : goal.returns-in-Inner-2-clause-came
returns-in-Inner-2-clause-came c = λ gives before.
    let count : c.len.result ≡ length c.args.rows.now.items = search rules in
    let e = c.node.view_is ∙ c.node-node.ensures ∙ ap (λ k. node_at c.args.dag.now (slice_index c.args.order.now k)) count in
    let now = subst (λ (xs : List ℕ). AreKept gives c.args.order.now c.args.sink xs c.args.rows.now.items) (reads-one _ _ c.requires.order _ c.requires.long _ e c.in-Inner.kind (ap role_view c.in-Inner.is) (sym c.has_right.ensures ∙ c.if-has_right.false)) before in
    IfOk-weaker c.came_one.result _ _ (λ r p. come-one _ _ c.requires.order _ c.requires.long _ e gives r.0 r.1 c.in-Inner.kind (ap role_view c.in-Inner.is) (sym c.has_right.ensures ∙ c.if-has_right.false) p) (c.came_one.ensures.came gives now)

pub returns-in-Inner-2-clause-kept : goal.returns-in-Inner-2-clause-kept
returns-in-Inner-2-clause-kept c = λ gives before.
    let count : c.len.result ≡ length c.args.rows.now.items = search rules in
    let e = c.node.view_is ∙ c.node-node.ensures ∙ ap (λ k. node_at c.args.dag.now (slice_index c.args.order.now k)) count in
    let now = subst (λ (xs : List ℕ). AreKept gives c.args.order.now c.args.sink xs c.args.rows.now.items) (reads-one _ _ c.requires.order _ c.requires.long _ e c.in-Inner.kind (ap role_view c.in-Inner.is) (sym c.has_right.ensures ∙ c.if-has_right.false)) before in
    c.came_one.ensures.kept gives now

pub returns-in-Sink-clause-came : goal.returns-in-Sink-clause-came
returns-in-Sink-clause-came c = λ gives before.
    let count : c.len.result ≡ length c.args.rows.now.items = search rules in
    let e = c.node.view_is ∙ c.node-node.ensures ∙ ap (λ k. node_at c.args.dag.now (slice_index c.args.order.now k)) count in
    let now = subst (λ (xs : List ℕ). AreKept gives c.args.order.now c.args.sink xs c.args.rows.now.items) (reads-sink _ _ c.requires.order _ c.requires.long _ e (ap role_view c.in-Sink.is)) before in
    IfOk-weaker c.came_one-in-Sink.result _ _ (λ r p. come-sink _ _ c.requires.order _ c.requires.long _ e gives r.0 r.1 (ap role_view c.in-Sink.is) p) (c.came_one-in-Sink.ensures.came gives now)

pub returns-in-Sink-clause-kept : goal.returns-in-Sink-clause-kept
returns-in-Sink-clause-kept c = λ gives before.
    let count : c.len.result ≡ length c.args.rows.now.items = search rules in
    let e = c.node.view_is ∙ c.node-node.ensures ∙ ap (λ k. node_at c.args.dag.now (slice_index c.args.order.now k)) count in
    let now = subst (λ (xs : List ℕ). AreKept gives c.args.order.now c.args.sink xs c.args.rows.now.items) (reads-sink _ _ c.requires.order _ c.requires.long _ e (ap role_view c.in-Sink.is)) before in
    c.came_one-in-Sink.ensures.kept gives now
