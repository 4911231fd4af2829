-- What a core reads of a job's graph: its ports, who reads whom, and its sink.
use Rattle.std.proofs.Common.{◌≡◌, ℕ, zero, suc, ◌+◌, ◌<◌, inl, inr, Bool, true, false, cond, ◌||◌, ◌==◌, List, [], ◌∷◌, length, get_or, Some, None, refl, sym, ap, subst, ◌∙◌, arith}
use Rattle.std.specs.Prelude.{⊤}
use Rattle.std.specs.Bool.{MatchBool}
use Rattle.std.proofs.lemmas.Bool.{eq-eqb}
use Rattle.apx_tuple.specs.Kind.{has_right}
use Rattle.apx_history.specs.Plan.{Plan, has, reads}
use Rattle.apx_pass.specs.Graph.{Role, Input, Inner, Sink, Node, node_at, is_sink}
use Rattle.apx_pass.specs.Order.{OfPorts, sources_of}
use Rattle.apx_pass.specs.Pass.{sink_of}
use Rattle.apx_pass.specs.Job.{Job}
use Rattle.apx_job.specs.Job.{plan_of}
use Rattle.apx_dag.specs.Graph.{link_by, sources_in}
use Rattle.apx_dag.specs.Order.{IsSource, Feeds}
use Rattle.apx_dag.specs.Valid.{IsGraph}
use Rattle.apx_dag.proofs.Going.{link-of-node}
use Rattle.apx_core.specs.Ports.{reads_left, reads_right}
use Rattle.apx_core.proofs.Planned.{operator_is}

clash : {b : Bool} → b ≡ true → b ≡ false → ⊥
clash h g = let e : true ≡ false = sym h ∙ g in cc

-- ---- ports

-- what holds of the ports that there are
pub by_ports : (role : Role) (P Q : Type 0) → (reads_left role ≡ true → P) → (reads_right role ≡ true → Q) → OfPorts role P Q
unfolding OfPorts
by_ports (Input kind file per_window) P Q h k = tt
by_ports (Inner kind) P Q h k = (h refl, by (has_right kind) k)
  where
    by : (b : Bool) → (b ≡ true → Q) → MatchBool b Q ⊤
    by true k = k refl
    by false k = tt
by_ports Sink P Q h k = h refl

left_listed : (role : Role) (l r : ℕ) → reads_left role ≡ true → has (sources_of role l r) l ≡ true
unfolding has sources_of
left_listed (Input kind file per_window) l r h = absurd (clash h refl)
left_listed (Inner kind) l r h = let e : (l == l) ≡ true = eq-eqb l l refl in ap (λ b. b || has (cond (has_right kind) (r ∷ []) []) l) e
left_listed Sink l r h = let e : (l == l) ≡ true = eq-eqb l l refl in ap (λ b. b || false) e

right_listed : (role : Role) (l r : ℕ) → reads_right role ≡ true → has (sources_of role l r) r ≡ true
unfolding has sources_of
right_listed (Input kind file per_window) l r h = absurd (clash h refl)
right_listed (Inner kind) l r h =
    let e : (r == r) ≡ true = eq-eqb r r refl in
    ap (λ b. (l == r) || has (cond b (r ∷ []) []) r) h ∙ (ap (λ b. (l == r) || (b || false)) e ∙ either (l == r))
  where
    either : (b : Bool) → (b || true) ≡ true
    either true = refl
    either false = refl
right_listed Sink l r h = absurd (clash h refl)

left_feeds : (role : Role) (l r : ℕ) → reads_left role ≡ true → IsSource (link_by role l r) l
left_feeds (Input kind file per_window) l r h = absurd (clash h refl)
left_feeds (Inner kind) l r h = inl refl
left_feeds Sink l r h = inl refl

right_feeds : (role : Role) (l r : ℕ) → reads_right role ≡ true → IsSource (link_by role l r) r
right_feeds (Input kind file per_window) l r h = absurd (clash h refl)
right_feeds (Inner kind) l r h = inr (ap (λ b. cond b (Some r) None) h)
right_feeds Sink l r h = absurd (clash h refl)

-- ---- who reads whom

module _ (plan : Plan) (job : Job) (is : plan ≡ plan_of job) (o : ℕ) (there : o < length job.flow.nodes) where
  pub left_read : reads_left (node_at job.flow.nodes o).role ≡ true → reads plan o (node_at job.flow.nodes o).left ≡ true
  left_read h = ap (λ q. has q.sources (node_at job.flow.nodes o).left) (operator_is plan job is o there) ∙ left_listed _ _ _ h

  pub right_read : reads_right (node_at job.flow.nodes o).role ≡ true → reads plan o (node_at job.flow.nodes o).right ≡ true
  right_read h = ap (λ q. has q.sources (node_at job.flow.nodes o).right) (operator_is plan job is o there) ∙ right_listed _ _ _ h

-- ---- the sink

sink_found : (nodes : List Node) (k : ℕ) (d : Node) → k < length nodes → is_sink (get_or nodes k d).role ≡ true → (sink_of nodes < length nodes) × ((e : Node) → is_sink (get_or nodes (sink_of nodes) e).role ≡ true)
unfolding sink_of
sink_found [] k d h is = absurd (omega arith)
sink_found (node ∷ nodes) k d h is = by (λ j l t. sink_found nodes j d l t) (is_sink node.role) refl k h is
  where
    by : ((j : ℕ) → j < length nodes → is_sink (get_or nodes j d).role ≡ true → (sink_of nodes < length nodes) × ((e : Node) → is_sink (get_or nodes (sink_of nodes) e).role ≡ true)) →
        (b : Bool) → b ≡ is_sink node.role → (k : ℕ) → k < suc (length nodes) → is_sink (get_or (node ∷ nodes) k d).role ≡ true →
        (cond b 0 (1 + sink_of nodes) < suc (length nodes)) × ((e : Node) → is_sink (get_or (node ∷ nodes) (cond b 0 (1 + sink_of nodes)) e).role ≡ true)
    by more true e k h is = (omega arith, λ d2. sym e)
    by more false e zero h is = absurd (clash is (sym e))
    by more false e (suc k) h is =
        let later = more k (omega arith) is in
        let place : suc (sink_of nodes) ≡ 1 + sink_of nodes = omega arith in
        (let a = later.0 in omega arith, λ d2. subst (λ q. is_sink (get_or (node ∷ nodes) q d2).role ≡ true) place (later.1 d2))

sink_role : (role : Role) → is_sink role ≡ true → role ≡ Sink
sink_role (Input kind file per_window) h = absurd (clash h refl)
sink_role (Inner kind) h = absurd (clash h refl)
sink_role Sink h = refl

module _ (nodes : List Node) (graph : IsGraph nodes) where
  found : (sink_of nodes < length nodes) × ((e : Node) → is_sink (get_or nodes (sink_of nodes) e).role ≡ true)
  found = let g = graph.sink in sink_found nodes g.0 _ g.1 (ap is_sink g.2)

  -- the sink stores
  pub sink_is : (node_at nodes (sink_of nodes)).role ≡ Sink
  sink_is = sink_role (node_at nodes (sink_of nodes)).role (found.1 _)

  -- and nobody else
  pub sink_only : (o : ℕ) → o < length nodes → (node_at nodes o).role ≡ Sink → o ≡ sink_of nodes
  sink_only o h is = let g = graph.sink in g.3 o h is ∙ sym (g.3 (sink_of nodes) found.0 sink_is)

  unread : (a b : ℕ) → Feeds (sources_in nodes) a b → a ≡ sink_of nodes → ⊥
  unread a b feeds e = graph.outputs a b feeds (ap (λ k. (node_at nodes k).role) e ∙ sink_is)

  -- no port reads it
  pub left_inner : (o : ℕ) → o < length nodes → reads_left (node_at nodes o).role ≡ true → (node_at nodes o).left ≡ sink_of nodes → ⊥
  left_inner o h r = unread (node_at nodes o).left o (subst (λ link. IsSource link (node_at nodes o).left) (sym (link-of-node nodes o h)) (left_feeds (node_at nodes o).role (node_at nodes o).left (node_at nodes o).right r))

  pub right_inner : (o : ℕ) → o < length nodes → reads_right (node_at nodes o).role ≡ true → (node_at nodes o).right ≡ sink_of nodes → ⊥
  right_inner o h r = unread (node_at nodes o).right o (subst (λ link. IsSource link (node_at nodes o).right) (sym (link-of-node nodes o h)) (right_feeds (node_at nodes o).role (node_at nodes o).left (node_at nodes o).right r))
