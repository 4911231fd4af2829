-- What is downstream of an operator, in each graph that has an order.
use Rattle.std.proofs.Common.{◌≡◌, ℕ, zero, suc, ◌+◌, ◌<◌, ◌≤◌, ◌==◌, ◌||◌, Bool, true, false, cond, List, [], ◌∷◌, length, slice_index, refl, sym, ap, ◌∙◌, subst, arith}
use Rattle.std.specs.Prelude.{⊤}
use Rattle.std.specs.Bool.{MatchBool}
use Rattle.std.specs.List.{list_any}
use Rattle.apx_tuple.specs.Kind.{has_right}
use Rattle.apx_pass.specs.Graph.{Role, Input, Inner, Sink, Node, node_at}
use Rattle.apx_pass.proofs.Passing.{OfPorts-map}
use Rattle.apx_pass.specs.Order.{OfPorts, IsBefore, IsOrder, sources_of, sources, reads, is_below_within, is_below}

-- two tests that agree on each source agree on whether one passes
any-source : (role : Role) (left right : ℕ) (p q : ℕ → Bool) → OfPorts role (p left ≡ q left) (p right ≡ q right) → list_any p (sources_of role left right) ≡ list_any q (sources_of role left right)
unfolding OfPorts sources_of
any-source (Input kind file per_window) left right p q h = refl
any-source (Inner kind) left right p q h = by (has_right kind) h.1
  where
    by : (b : Bool) → MatchBool b (p right ≡ q right) ⊤ → list_any p (left ∷ cond b (right ∷ []) []) ≡ list_any q (left ∷ cond b (right ∷ []) [])
    by true r = let l : p left ≡ q left = h.0 in λ i. l i || (r i || false)
    by false r = let l : p left ≡ q left = h.0 in λ i. l i || false
any-source Sink left right p q h = λ i. h i || false

module _ (nodes : List Node) (order : List ℕ) (o : IsOrder nodes order) (s : ℕ) where
  -- what an earlier operator of the order settles, a source that stands there settles
  earlier : (streams k : ℕ) → k ≤ streams → ((j : ℕ) → j < streams → j < length order → is_below_within streams nodes s (slice_index order j) ≡ is_below_within (suc streams) nodes s (slice_index order j)) → k < length order →
      (t : ℕ) → IsBefore order k t → (s == t || is_below_within streams nodes s t) ≡ (s == t || is_below_within (suc streams) nodes s t)
  earlier streams k h same l t b =
      let place : b.place < k = b.earlier in
      let P : ℕ → Type 0 = λ q. (s == q || is_below_within streams nodes s q) ≡ (s == q || is_below_within (suc streams) nodes s q) in
      subst P b.is (ap (λ c. s == slice_index order b.place || c) (same b.place (omega arith) (omega arith)))

  -- more streams than an operator has before it in the order reach no more
  settled : (streams k : ℕ) → k < streams → k < length order → is_below_within streams nodes s (slice_index order k) ≡ is_below_within (suc streams) nodes s (slice_index order k)
  unfolding is_below_within
  settled zero k h l = absurd (omega arith)
  settled (suc streams) k h l =
      let node = node_at nodes (slice_index order k) in
      let before = earlier streams k (omega arith) (λ j p q. settled streams j p q) l in
      any-source node.role node.left node.right (λ t. s == t || is_below_within streams nodes s t) (λ t. s == t || is_below_within (suc streams) nodes s t)
      (OfPorts-map node.role _ _ _ _ (before node.left) (before node.right) (o.behind k l))

  -- an operator is downstream where it reads that one, or one that is downstream of it
  pub is_below-sources : (op : ℕ) → op < length nodes → is_below nodes s op ≡ list_any (λ source. s == source || is_below nodes s source) (sources nodes op)
  unfolding is_below_within
  is_below-sources op h =
      let b = o.whole op h in
      let long : length order ≡ length nodes = o.long in
      let place : b.place < length order = b.earlier in
      let P : ℕ → Type 0 = λ q. is_below_within (length nodes) nodes s q ≡ is_below_within (suc (length nodes)) nodes s q in
      subst P b.is (settled (length nodes) b.place (omega arith) place)
