-- What is downstream of an operator, marked in an order of the graph.
use Rattle.std.proofs.Common.{◌≡◌, ℕ, ◌+◌, ◌<◌, ◌⊎◌, inl, inr, ◌==◌, ◌&&◌, ◌||◌, Bool, true, false, cond, List, [], ◌∷◌, length, get_or, set, slice_index, refl, sym, ap, subst, ◌∙◌}
use Rattle.std.specs.Prelude.{⊤}
use Rattle.std.specs.Bool.{MatchBool}
use Rattle.std.specs.List.{list_any}
use Rattle.std.proofs.lemmas.List.{get_or-set_other}
use Rattle.std.proofs.lemmas.Grind.{get_or-set_at}
use Rattle.apx_tuple.specs.Kind.{has_right}
use Rattle.apx_pass.specs.Graph.{Role, Input, Inner, Sink, Node, node_at}
use Rattle.apx_pass.specs.Order.{OfPorts, IsBefore, IsOrder, sources_of, sources, is_below}
use Rattle.apx_pass.proofs.Passing.{OfPorts-map}
use Rattle.apx_pass.proofs.Below.{is_below-sources}
use Rattle.apx_recovery.proofs.Steps.{alike, at_or_below}

-- tests that agree on each source agree on whether one passes
same_sources : (role : Role) (left right : ℕ) (p q : ℕ → Bool) → OfPorts role (p left ≡ q left) (p right ≡ q right) →
    list_any p (sources_of role left right) ≡ list_any q (sources_of role left right)
unfolding OfPorts sources_of
same_sources (Input kind file per_window) left right p q h = refl
same_sources (Inner kind) left right p q h = by (has_right kind) h.0 h.1
  where
    by : (b : Bool) → p left ≡ q left → MatchBool b (p right ≡ q right) ⊤ → list_any p (left ∷ cond b (right ∷ []) []) ≡ list_any q (left ∷ cond b (right ∷ []) [])
    by true l r = ap (λ (x : Bool). x || (p right || false)) l ∙ ap (λ (x : Bool). q left || (x || false)) r
    by false l r = ap (λ (x : Bool). x || false) l
same_sources Sink left right p q h = ap (λ (x : Bool). x || false) h

-- an operator whose kind may have a second port
pub inner_any : (p : ℕ → Bool) (l r : ℕ) (b : Bool) → (p l || (b && p r)) ≡ list_any p (l ∷ cond b (r ∷ []) [])
inner_any p l r true = ap (λ (x : Bool). p l || x) (or_none (p r))
  where
    or_none : (x : Bool) → x ≡ (x || false)
    or_none true = refl
    or_none false = refl
inner_any p l r false = refl

module _ (nodes : List Node) (order : List ℕ) (is : IsOrder nodes order) (s : ℕ) (marks : List Bool) (place : ℕ) (here : place < length order)
    (done : (k : ℕ) → k < place → get_or marks (slice_index order k) false ≡ is_below nodes s (slice_index order k)) where
  earlier : (t : ℕ) → IsBefore order place t → (s == t || get_or marks t false) ≡ (s == t || is_below nodes s t)
  earlier t b =
      let P : ℕ → Type 0 = λ q. (s == q || get_or marks q false) ≡ (s == q || is_below nodes s q) in
      subst P b.is (ap (λ (x : Bool). s == slice_index order b.place || x) (done b.place b.earlier))

  -- an operator reads s, or one that is marked, where it is downstream of s
  pub marked_is : list_any (λ source. s == source || get_or marks source false) (sources nodes (slice_index order place)) ≡ is_below nodes s (slice_index order place)
  marked_is =
      let node = node_at nodes (slice_index order place) in
      same_sources node.role node.left node.right (λ t. s == t || get_or marks t false) (λ t. s == t || is_below nodes s t)
      (OfPorts-map node.role _ _ _ _ (earlier node.left) (earlier node.right) (is.behind place here))
      ∙ sym (is_below-sources nodes order is s (slice_index order place) (is.known place here))

  -- so the marks go on
  pub mark_step : (b : Bool) → slice_index order place < length marks → b ≡ is_below nodes s (slice_index order place) →
      (k : ℕ) → k < place + 1 → get_or (set marks (slice_index order place) b) (slice_index order k) false ≡ is_below nodes s (slice_index order k)
  mark_step b fits e k r = by (alike (slice_index order k) (slice_index order place))
    where
      old : (slice_index order k ≡ slice_index order place → ⊥) → (k < place) ⊎ (k ≡ place) → get_or marks (slice_index order k) false ≡ is_below nodes s (slice_index order k)
      old n (inl h) = done k h
      old n (inr h) = absurd (n (ap (slice_index order) h))

      by : (slice_index order k ≡ slice_index order place) ⊎ (slice_index order k ≡ slice_index order place → ⊥) →
          get_or (set marks (slice_index order place) b) (slice_index order k) false ≡ is_below nodes s (slice_index order k)
      by (inl h) = get_or-set_at marks (slice_index order place) (slice_index order k) b false h fits ∙ e ∙ ap (is_below nodes s) (sym h)
      by (inr n) = get_or-set_other marks (slice_index order place) (slice_index order k) b false n ∙ old n (at_or_below k place r)
