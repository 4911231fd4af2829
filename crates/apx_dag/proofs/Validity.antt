-- The graph of an accepted application is valid.
use Rattle.std.proofs.Common.{◌≡◌, ◌≢◌, ℕ, zero, suc, ◌+◌, ◌<◌, Bool, true, false, not, cond, ltb, ◌&&◌, List, [], ◌∷◌, length, get_or, map, Some, None, ◌⊎◌, inl, inr, refl, sym, ap, subst, ◌∙◌, arith}
use Rattle.std.specs.Prelude.{unwrap_or, codes}
use Rattle.std.specs.List.{find, position, position_or_len, list_any, list_all, filter, slice_get}
use Rattle.std.specs.Str.{bytes_eq}
use Rattle.std.proofs.lemmas.List.{get_or_default, get_or_past, length-map, get_or-map, length-take, get_or-take}
use Rattle.std.proofs.Math.Numerals.{one-add}
use Rattle.apx_json.specs.Texts.{Operator, Stream, Application}
use Rattle.apx_pass.specs.Graph.{Role, Input, Inner, Sink, Node, node_at}
use Rattle.apx_dag.specs.declared.link.Link.{Link}
use Rattle.apx_dag.specs.declared.class.Class.{Class}
use Rattle.apx_dag.specs.declared.class.Class.TheVariants.{Store}
use Rattle.apx_dag.specs.Class.{class_of, is_end}
use Rattle.apx_dag.specs.Graph.{node_of, nodes_from, graph_of, sources_of, sources_in, link_by}
use Rattle.apx_dag.specs.Order.{IsSource, Feeds, Reaches, at_once, through, IsLinkOrder, link_at}
use Rattle.apx_dag.specs.Ports.{is_named, is_port, is_source, is_sink, has_output, left_port, right_port, source_of, link_of, links_of}
use Rattle.apx_dag.specs.Role.{role_of, role_in}
use Rattle.apx_dag.specs.Rules.{operator_name, is_class, is_store, is_one}
use Rattle.apx_dag.specs.Valid.{IsInputRole, IsNode, IsFed, IsGraph}
use Rattle.apx_dag.proofs.Finding.{and_true, not_false, map_none, then_some, map_or_true, none_found, found_at, any_found, nothing, some_is}
use Rattle.apx_dag.proofs.Inversions.{HoldsBefore, HoldsAfter}
use Rattle.apx_dag.proofs.Ranges.{kept_range, one_is, role_tells, Tells}
use Rattle.apx_dag.proofs.Sources.{has_role, graph_sources, links_within, stream_joins, whole_none, no_link, no_source}
use Rattle.apx_dag.proofs.Roles.{tested}

-- ---- lists

-- the first place that passes holds what is found
pub first_at : {X : Type 0} (p : X → Bool) (xs : List X) (x : X) → find p xs ≡ Some x → get_or xs (position_or_len p xs) x ≡ x
first_at p [] x e = absurd (nothing x (sym e))
first_at p (y ∷ ys) x e = by (p y) refl (λ t. first_at p ys x (rw t at e)) where
  by : (b : Bool) → p y ≡ b → (p y ≡ false → get_or ys (position_or_len p ys) x ≡ x) → get_or (y ∷ ys) (cond (not (p y)) (1 + position_or_len p ys) 0) x ≡ x
  by true t rest = let same : y ≡ x = some_is y x (rw t at e) in rw t same
  by false t rest = rw (t, one-add) (rest t)

placed_first : {X : Type 0} (p : X → Bool) (xs : List X) (a : ℕ) → position p xs ≡ Some a → position_or_len p xs ≡ a
placed_first p xs a e = some_is (position_or_len p xs) a (tested (ltb (position_or_len p xs) (length xs)) (Some (position_or_len p xs)) a e)

none_passes : {X : Type 0} (p : X → Bool) (xs : List X) → slice_get (filter p xs) 0 ≡ None → (k : ℕ) (d : X) → k < length xs → p (get_or xs k d) ≡ true → ⊥
none_passes p [] e k d lt t = omega arith
none_passes p (x ∷ xs) e k d lt t = by (p x) refl (λ f. none_passes p xs (rw f at e)) k lt t where
  by : (b : Bool) → p x ≡ b → (p x ≡ false → (i : ℕ) (c : _) → i < length xs → p (get_or xs i c) ≡ true → ⊥) → (i : ℕ) → i < length (x ∷ xs) → p (get_or (x ∷ xs) i d) ≡ true → ⊥
  by true f rest i lt t = nothing x (rw f at e)
  by false f rest zero lt t = cc
  by false f rest (suc i) lt t = rest f i d (omega arith) t

-- one element at most passes
pub one_passes : {X : Type 0} (p : X → Bool) (xs : List X) → slice_get (filter p xs) 1 ≡ None → (j k : ℕ) (d : X) → j < length xs → k < length xs → p (get_or xs j d) ≡ true → p (get_or xs k d) ≡ true → j ≡ k
one_passes p [] e j k d lj lk tj tk = absurd (omega arith)
one_passes p (x ∷ xs) e j k d lj lk tj tk = by (p x) refl (λ f. one_passes p xs (rw f at e)) j k lj lk tj tk where
  by : (b : Bool) → p x ≡ b → (p x ≡ false → (m n : ℕ) (c : _) → m < length xs → n < length xs → p (get_or xs m c) ≡ true → p (get_or xs n c) ≡ true → m ≡ n) → (m n : ℕ) → m < length (x ∷ xs) → n < length (x ∷ xs) → p (get_or (x ∷ xs) m d) ≡ true → p (get_or (x ∷ xs) n d) ≡ true → m ≡ n
  by b f rest zero zero lm ln tm tn = refl
  by true f rest zero (suc n) lm ln tm tn = absurd (none_passes p xs (rw f at e) n d (omega arith) tn)
  by true f rest (suc m) n lm ln tm tn = absurd (none_passes p xs (rw f at e) m d (omega arith) tm)
  by false f rest zero (suc n) lm ln tm tn = absurd cc
  by false f rest (suc m) zero lm ln tm tn = absurd cc
  by false f rest (suc m) (suc n) lm ln tm tn = ap suc (rest f m n d (omega arith) (omega arith) tm tn)

-- ---- operators and nodes

nodes_at : (app : Application) (os : List Operator) (i k : ℕ) → k < length os → (o : Operator) × (n : ℕ) × (get_or os k o ≡ o) × ((d : Node) → get_or (nodes_from app i os) k d ≡ node_of app n o)
nodes_at app [] i k lt = absurd (omega arith)
nodes_at app (o ∷ os) i zero lt = (o, i, refl, λ d. refl)
nodes_at app (o ∷ os) i (suc k) lt = nodes_at app os (i + 1) k (omega arith)

nodes_count : (app : Application) (os : List Operator) (i : ℕ) → length (nodes_from app i os) ≡ length os
nodes_count app [] i = refl
nodes_count app (o ∷ os) i = ap suc (nodes_count app os (i + 1))

store_is : (class : Class) → is_store class ≡ true → class ≡ Store
store_is Store e = refl
store_is _ e = absurd cc

some_source : (app : Application) (os : List Operator) (b a : ℕ) → IsSource (get_or (map (link_of app) os) b (record { left = None; right = None })) a → (name : List ℕ) × (port : List ℕ) × (source_of app name port ≡ Some a)
some_source app [] b a h = absurd (no_source a (let none : get_or (map (link_of app) []) b no_link ≡ no_link = get_or_past [] b no_link (omega arith) in subst (λ (l : Link). IsSource l a) none h))
some_source app (o ∷ os) zero a (inl e) = let p = then_some (source_of app o.name) (left_port o) a e in (o.name, p.0, p.2)
some_source app (o ∷ os) zero a (inr e) = let p = then_some (source_of app o.name) (right_port o) a e in (o.name, p.0, p.2)
some_source app (o ∷ os) (suc b) a h = some_source app os b a h

pub extends : (links : List Link) (a b c : ℕ) → Reaches links a b → Feeds links b c → Reaches links a c
extends links a b c (at_once f) g = through f (at_once g)
extends links a b c (through {b = m} f r) g = through f (extends links m b c r g)

-- an operator that isn't an input has a source on the left
left_source : (role : Role) (left right : ℕ) → IsInputRole role ⊎ ((link_by role left right).left ≡ Some left)
left_source (Input kind file per_window) left right = inl tt
left_source (Inner kind) left right = inr refl
left_source Sink left right = inr refl

module _ (app : Application) (before : HoldsBefore app) (after : HoldsAfter app) where
  record At (k : ℕ) : Type 0 where
    pub operator : Operator
    pub number : ℕ
    pub here : get_or app.operators k operator ≡ operator
    pub node : (d : Node) → get_or (graph_of app) k d ≡ node_of app number operator
    pub class : Class
    pub class_is : class_of operator.class ≡ Some class
    pub role : Role
    pub role_is : role_in operator ≡ Some role
    pub role_of_class : role_of class operator.properties ≡ Some role

  at_place : (k : ℕ) → k < length app.operators → At k
  at_place k lt =
      let p = nodes_at app app.operators 0 k lt in
      let r = has_role app before p.0 k lt p.2 in
      let class = then_some (λ (class : Class). role_of class p.0.properties) (class_of p.0.class) r.0 r.1 in
      record { operator = p.0; number = p.1; here = p.2; node = p.3; class = class.0; class_is = class.1; role = r.0; role_is = r.1; role_of_class = class.2 }

  tells : (k : ℕ) (p : At k) → Tells p.class p.role
  tells k p = role_tells p.class p.operator.properties p.role p.role_of_class

  end_alone : (k : ℕ) (p : At k) (lt : k < length app.operators) (test : Operator → Bool) → find (λ o. is_class is_end o && not (test o)) app.operators ≡ None → is_end p.class ≡ true → test p.operator ≡ true
  end_alone k p lt test none end =
      let fails = none_found (λ o. is_class is_end o && not (test o)) app.operators none k p.operator lt in
      let at_p : (is_class is_end p.operator && not (test p.operator)) ≡ false = rw p.here at fails in
      let is : is_class is_end p.operator ≡ true = rw p.class_is end in
      not_false (test p.operator) (rw is at at_p)

  is_node : (k : ℕ) (lt : k < length app.operators) (d : Node) → IsNode (get_or (graph_of app) k d)
  is_node k lt d =
      let p = at_place k lt in
      let t = tells k p in
      rw (p.node d) (record {
        role = rw p.role_is t.ranges;
        partitions = kept_range 1 8 1 p.operator.partitions (omega arith) (omega arith);
        app_windows = kept_range 1 20000 1 p.operator.app_windows (omega arith) (omega arith);
        alone = λ h.
            let end = t.at_end (rw p.role_is at h) in (
              (one_is p.operator.partitions (end_alone k p lt (λ o. is_one o.partitions) (map_none operator_name _ after.whole_ends) end)).0,
              (one_is p.operator.app_windows (end_alone k p lt (λ o. is_one o.app_windows) (map_none operator_name _ after.plain_ends) end)).1,
            );
      })

  -- an operator that is a source has an output port
  source_output : (name port : List ℕ) (a : ℕ) → source_of app name port ≡ Some a → (o : Operator) × (get_or app.operators a o ≡ o) × (has_output o ≡ true)
  source_output name port a e =
      let s = then_some (λ (s : Stream). position (is_named s.source.operator) app.operators) (find (λ s. list_any (is_port name port) s.sinks) app.streams) a e in
      let at_k = found_at (λ (s : Stream). list_any (is_port name port) s.sinks) app.streams s.0 s.1 in
      let joins = stream_joins app before s.0 at_k.0 at_k.1 at_k.2 in
      let source : is_source app.operators s.0.source ≡ true = (and_true (is_source app.operators s.0.source) (list_all (is_sink app.operators) s.0.sinks) joins).0 in
      let o = map_or_true _ (find (is_named s.0.source.operator) app.operators) source in
      let first : get_or app.operators a o.0 ≡ o.0 = subst (λ (x : ℕ). get_or app.operators x o.0 ≡ o.0) (placed_first (is_named s.0.source.operator) app.operators a s.2) (first_at (is_named s.0.source.operator) app.operators o.0 o.1) in
      (o.0, first, (and_true (has_output o.0) (bytes_eq s.0.source.port (codes "output")) o.2).0)

  not_sink : (a b : ℕ) (d : Node) → Feeds (links_of app) a b → a < length app.operators → (get_or (graph_of app) a d).role ≢ Sink
  not_sink a b d feeds lt e =
      let named = some_source app app.operators b a feeds in
      let out = source_output named.0 named.1 a named.2 in
      let p = at_place a lt in
      let same : p.operator ≡ out.0 = sym p.here ∙ get_or_default app.operators a p.operator out.0 lt ∙ out.1 in
      let role : p.role ≡ Sink = (let one : unwrap_or (role_in p.operator) Sink ≡ Sink = rw (p.node d) at e in rw p.role_is at one) in
      let store : p.class ≡ Store = (tells a p).sink role in
      let none : has_output p.operator ≡ false = rw (p.class_is, store) refl in
      let some : has_output p.operator ≡ true = rw same out.2 in
      cc

  store_at : (k : ℕ) (lt : k < length app.operators) (d : Node) → (get_or (graph_of app) k d).role ≡ Sink → (c : Operator) → is_class is_store (get_or app.operators k c) ≡ true
  store_at k lt d e c =
      let p = at_place k lt in
      let role : p.role ≡ Sink = (let one : unwrap_or (role_in p.operator) Sink ≡ Sink = rw (p.node d) at e in rw p.role_is at one) in
      let store : p.class ≡ Store = (tells k p).sink role in
      let at_p : is_class is_store p.operator ≡ true = rw (p.class_is, store) refl in
      rw (get_or_default app.operators k c p.operator lt, p.here) at_p

  one_sink : (s : ℕ) × (s < length app.operators) × ((d : Node) → (get_or (graph_of app) s d).role ≡ Sink) × ((j : ℕ) (d : Node) → j < length app.operators → (get_or (graph_of app) j d).role ≡ Sink → j ≡ s)
  one_sink =
      let any : list_any (is_class is_store) app.operators ≡ true = not_false _ (whole_none _ after.store) in
      let o = any_found (is_class is_store) app.operators any in
      let at_k = found_at (is_class is_store) app.operators o.0 o.1 in
      let p = at_place at_k.0 at_k.1 in
      let same : p.operator ≡ o.0 = sym p.here ∙ get_or_default app.operators at_k.0 p.operator o.0 at_k.1 ∙ at_k.2 in
      let passes : is_class is_store p.operator ≡ true = rw same at_k.3 in
      let class_passes : is_store p.class ≡ true = rw p.class_is at passes in
      let store = store_is p.class class_passes in
      let role : p.role ≡ Sink = (let built_store : role_of Store p.operator.properties ≡ Some p.role = rw store at p.role_of_class in sym (some_is Sink p.role (tested _ (Some Sink) p.role built_store))) in (
        at_k.0,
        at_k.1,
        λ d. rw (p.node d, p.role_is, role) refl,
        λ j d lt e. one_passes (is_class is_store) app.operators (map_none operator_name _ after.one) j at_k.0 o.0 lt at_k.1 (store_at j lt d e o.0) (rw at_k.2 at_k.3),
      )

-- ---- the whole graph

sources_at : (nodes : List Node) (i : ℕ) → i < length nodes → link_at (sources_in nodes) i ≡ sources_of (node_at nodes i)
sources_at nodes i lt = get_or-map sources_of nodes i _ no_link lt

-- each operator of an order is an input or reached from one
module _ (nodes : List Node) (order : List ℕ) (ordered : IsLinkOrder (sources_in nodes) order) where
  count : length (sources_in nodes) ≡ length nodes
  count = length-map nodes sources_of

  -- from its left source, which stands before it
  from_left : (i left : ℕ) → Feeds (sources_in nodes) left i → IsFed nodes left → left < length nodes → IsFed nodes i
  from_left i left feeds (inl input) lt = inr (left, lt, input, at_once feeds)
  from_left i left feeds (inr from) lt = inr (from.0, from.1, from.2, extends (sources_in nodes) from.0 left i from.3 feeds)

  fed_at : (m k : ℕ) → k < m → k < length order → IsFed nodes (get_or order k 0)
  fed_at zero k below lt = absurd (omega arith)
  fed_at (suc m) k below lt =
      let i = get_or order k 0 in
      let ready = (ordered.next k lt).ready in
      let here : i < length nodes = omega (arith, ready.here, count) in
      let node = node_at nodes i in
      elim (left_source node.role node.left node.right) [
        | inl input ↦ inl input
        | inr left ↦
            let feeds : Feeds (sources_in nodes) node.left i = inl (rw (sources_at nodes i here) left) in
            let stands = ready.fed node.left feeds in
            let before : stands.0 < k = omega (arith, stands.1, length-take k order) in
            let in_order : stands.0 < length order = omega arith in
            let is : get_or order stands.0 0 ≡ node.left = get_or_default order stands.0 0 node.left in_order ∙ sym (get_or-take k order stands.0 node.left before) ∙ stands.2 in
            let there : node.left < length nodes = rw (← is) (let h = (ordered.next stands.0 in_order).ready.here in omega (arith, h, count)) in
            from_left i node.left feeds (subst (IsFed nodes) is (fed_at m stands.0 (omega arith) in_order)) there
      ]

  pub each_fed : (i : ℕ) → i < length nodes → IsFed nodes i
  each_fed i lt =
      let stands = ordered.each i (omega (arith, count)) in
      let is : get_or order stands.0 0 ≡ i = get_or_default order stands.0 0 i stands.1 ∙ stands.2 in
      subst (IsFed nodes) is (fed_at (suc stands.0) stands.0 (omega arith) stands.1)

pub is_graph : (app : Application) (order : List ℕ) → HoldsBefore app → HoldsAfter app → IsLinkOrder (sources_in (graph_of app)) order → IsGraph (graph_of app)
is_graph app order before after ordered =
    let count : length (graph_of app) ≡ length app.operators = nodes_count app app.operators 0 in
    let sink = one_sink app before after in
    record {
      each = λ i lt. is_node app before after i (omega (arith, count)) _;
      sources = rw (graph_sources app before) (links_within app);
      outputs = λ a b feeds. let f : Feeds (links_of app) a b = rw (← graph_sources app before) feeds in not_sink app before after a b _ f (let lt = links_within app a b f in omega (arith, lt, length-map app.operators (link_of app)));
      sink = (sink.0, omega (arith, sink.1, count), sink.2 _, λ j lt e. sink.3 j _ (omega (arith, count)) e);
      fed = each_fed (graph_of app) order ordered;
    }
