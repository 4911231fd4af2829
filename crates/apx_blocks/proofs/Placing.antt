-- The operators in an order, and the one sink among them.
use Rattle.std.proofs.Common.{◌≡◌, ◌≢◌, ℕ, zero, suc, ◌+◌, ◌<◌, ◌≤◌, Bool, true, false, cond, List, [], ◌∷◌, length, get_or, set, slice_index, refl, sym, ap, subst, ◌∙◌, ◌⊎◌, inl, inr, arith}
use Rattle.std.proofs.lemmas.Bool.{cases_eq, cases_lt}
use Rattle.std.proofs.lemmas.List.{get_or-set_same, get_or-set_other}
use Rattle.apx_dag.specs.Valid.{IsGraph}
use Rattle.apx_pass.specs.Graph.{Role, Input, Inner, Sink, Node, node_at, is_sink}
use Rattle.apx_pass.specs.Order.{IsBefore}
use Rattle.apx_pass.specs.Pass.{sink_of}

-- an operator that stands before the place behind stands there, or before it
pub before-next : (order : List ℕ) (k o : ℕ) → IsBefore order (k + 1) o → (o ≡ slice_index order k) ⊎ IsBefore order k o
before-next order k o b = by (cases_lt b.place k)
  where
    by : (b.place < k) ⊎ (k ≤ b.place) → (o ≡ slice_index order k) ⊎ IsBefore order k o
    by (inl lt) = inr (record { place = b.place; earlier = lt; is = b.is })
    by (inr ge) =
        let earlier : b.place < k + 1 = b.earlier in
        let e : b.place ≡ k = omega arith in
        inl (sym b.is ∙ ap (λ (p : ℕ). slice_index order p) e)

-- none stands before the first place
pub before-none : (order : List ℕ) (o : ℕ) → IsBefore order 0 o → ⊥
before-none order o b = let earlier : b.place < 0 = b.earlier in absurd (omega arith)

-- what stands at an operator's number, after another was changed or it was itself
pub at-set : {X : Type 0} (P : ℕ → X → Type 0) (xs : List X) (op o : ℕ) (new d : X) → op < length xs → P op new → (o ≢ op → P o (get_or xs o d)) → P o (get_or (set xs op new) o d)
at-set P xs op o new d there p others = by (cases_eq o op)
  where
    by : (o ≡ op) ⊎ (o ≢ op) → P o (get_or (set xs op new) o d)
    by (inl e) =
        subst (λ (k : ℕ). P k (get_or (set xs op new) k d)) (sym e) (subst (λ x. P op x) (sym (get_or-set_same xs op new d there)) p)
    by (inr apart) = subst (λ x. P o x) (sym (get_or-set_other xs op o new d apart)) (others apart)

-- the sinks of a graph are one
sink-role : (role : Role) → is_sink role ≡ true → role ≡ Sink
sink-role (Input kind file per_window) e = absurd (cc e)
sink-role (Inner kind) e = absurd (cc e)
sink-role Sink e = refl

pub one-sink : (nodes : List Node) → IsGraph nodes → (o s : ℕ) → o < length nodes → s < length nodes → is_sink (node_at nodes o).role ≡ true → is_sink (node_at nodes s).role ≡ true → o ≡ s
one-sink nodes graph o s lo ls so ss =
    let only = graph.sink.3 in
    only o lo (sink-role (node_at nodes o).role so) ∙ sym (only s ls (sink-role (node_at nodes s).role ss))

-- the first sink is there, and it is one
first-sink : (nodes : List Node) (i : ℕ) (d e : Node) → i < length nodes → is_sink (get_or nodes i d).role ≡ true → (sink_of nodes < length nodes) × (is_sink (get_or nodes (sink_of nodes) e).role ≡ true)
unfolding sink_of
first-sink [] i d e h s = absurd (omega arith)
first-sink (node ∷ nodes) i d e h s = by (is_sink node.role) refl i h s (λ k l t. first-sink nodes k d e l t)
  where
    by : (b : Bool) → is_sink node.role ≡ b → (k : ℕ) → k < length (node ∷ nodes) → is_sink (get_or (node ∷ nodes) k d).role ≡ true →
        ((m : ℕ) → m < length nodes → is_sink (get_or nodes m d).role ≡ true → (sink_of nodes < length nodes) × (is_sink (get_or nodes (sink_of nodes) e).role ≡ true)) →
        (cond b 0 (1 + sink_of nodes) < length (node ∷ nodes)) × (is_sink (get_or (node ∷ nodes) (cond b 0 (1 + sink_of nodes)) e).role ≡ true)
    by true q k l t rest = (omega arith, q)
    by false q zero l t rest = absurd (cc (sym q ∙ t))
    by false q (suc k) l t rest =
        let r = rest k (omega arith) t in
        let one : suc (sink_of nodes) ≡ 1 + sink_of nodes = omega arith in
        (omega (arith, r.0), subst (λ (m : ℕ). is_sink (get_or (node ∷ nodes) m e).role ≡ true) one r.1)

pub sink-there : (nodes : List Node) → IsGraph nodes → (sink_of nodes < length nodes) × (is_sink (node_at nodes (sink_of nodes)).role ≡ true)
sink-there nodes graph = let s = graph.sink in first-sink nodes s.0 _ _ s.1 (ap is_sink s.2)
