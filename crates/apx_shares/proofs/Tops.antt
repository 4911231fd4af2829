-- The first k of the partitions' first k are the first k of the whole.
use Rattle.std.proofs.Common.{◌≡◌, ℕ, ℤ, ◌+◌, ◌-◌, zero, suc, min, Bool, true, false, cond, List, [], ◌∷◌, ◌++◌, map, take, refl, sym, ap, ◌∙◌, arith}
use Rattle.std.specs.declared.cmp.Ordering.{Ordering}
use Rattle.std.specs.declared.cmp.Ordering.TheVariants.{Less, Equal, Greater}
use Rattle.std.specs.Ordering.{is_eq, is_lt, is_gt, int_cmp, ordering_then, ordering_reverse}
use Rattle.std.specs.List.{flat_map, range_with_len}
use Rattle.std.specs.Cmp.{then_total, on_total, back_total, int_cmp_total, tied_itself}
use Rattle.std.specs.Cmp.Lexicographic.{nat_list_cmp_total}
use Rattle.std.proofs.lemmas.Cmp.{int_ranked}
use Rattle.apx_order.specs.Sorted.{IsExact, sorted, IsAscending, IsFloor}
use Rattle.apx_order.proofs.Sorting.{sorted-ascends, same-by-times, times-less, floor-down}
use Rattle.apx_tuple.specs.declared.kind.Kind.TheVariants.{Top}
use Rattle.apx_tuple.specs.declared.tuple.Tuple.{Tuple}
use Rattle.apx_tuple.specs.State.{Pair}
use Rattle.apx_tuple.specs.Tuple.{key_order, tuple_order, bag_of}
use Rattle.apx_tuple.proofs.Orders.{key_order-tight, tuple_order-exact, both-equal}
use Rattle.apx_codec.specs.KeyNumber.{owner_of}
use Rattle.apx_rules.specs.Parts.{cut_bag, of_parts, unify, pair_order}
use Rattle.apx_rules.specs.Step.{step, top_of, rank_order}
use Rattle.apx_shares.specs.Laws.{PartsUnify}
use Rattle.apx_shares.proofs.Cuts.{keys-are-owned}
use Rattle.apx_shares.proofs.Steps.{keyed-rows}
use Rattle.apx_shares.proofs.Sums.{count, times-count, count-append, count-sorted, count-all-cuts}

abbrev number : Bool → ℕ
number b = cond b 1 0

-- ---- the first k of an ascending list

module _ {X : Type 0} {cmp : X → X → Ordering} (o : IsExact cmp) where
  abbrev pub below : X → List X → ℕ
  below t xs = count (λ y. is_lt (cmp y t)) xs

  abbrev pub here : X → List X → ℕ
  here t xs = count (λ y. is_eq (cmp t y)) xs

  not_below : (r s : Ordering) → is_gt r ≡ false → s ≡ ordering_reverse r → is_lt s ≡ false
  not_below Less s h e = ap is_lt e
  not_below Equal s h e = ap is_lt e
  not_below Greater s h e = cc

  floor-below : (t : X) (xs : List X) → IsFloor cmp t xs → below t xs ≡ 0
  floor-below t [] f = refl
  floor-below t (x ∷ xs) f =
      let no : is_lt (cmp x t) ≡ false = not_below (cmp t x) (cmp x t) f.0 (o.total.antisymm x t) in
      omega (arith, ap number no, floor-below t xs f.1)

  above-here : (t x : X) (xs : List X) → cmp t x ≡ Less → IsFloor cmp x xs → here t (x ∷ xs) ≡ 0
  above-here t x xs l f = sym (times-count cmp t (x ∷ xs)) ∙ times-less o t x xs l f

  pub take-here : (t : X) (k : ℕ) (xs : List X) → IsAscending cmp xs → here t (take k xs) ≡ min (here t xs) (k - below t xs)
  take-here t zero xs a = omega arith
  take-here t (suc k) [] a = omega arith
  take-here t (suc k) (x ∷ xs) a = by (cmp x t) refl (take-here t k xs a.1)
    where
      by : (r : Ordering) → cmp x t ≡ r → here t (take k xs) ≡ min (here t xs) (k - below t xs) →
          cond (is_eq (cmp t x)) 1 0 + here t (take k xs) ≡ min (cond (is_eq (cmp t x)) 1 0 + here t xs) (suc k - (cond (is_lt r) 1 0 + below t xs))
      by Less e rest = let no : is_eq (cmp t x) ≡ false = ap is_eq (o.total.antisymm t x ∙ ap ordering_reverse e) in omega (arith, rest, ap number no)
      by Equal e rest =
          let yes : is_eq (cmp t x) ≡ true = ap is_eq (o.total.antisymm t x ∙ ap ordering_reverse e) in
          let none : below t xs ≡ 0 = ap (λ u. below u xs) (sym (o.tight x t e)) ∙ floor-below x xs a.0 in
          omega (arith, rest, ap number yes, none)
      by Greater e rest =
          let less : cmp t x ≡ Less = o.total.antisymm t x ∙ ap ordering_reverse e in
          let none : here t (x ∷ xs) ≡ 0 = above-here t x xs less a.0 in
          omega (arith, rest, none)

  pub take-below : (t : X) (k : ℕ) (xs : List X) → IsAscending cmp xs → below t (take k xs) ≡ min k (below t xs)
  take-below t zero xs a = omega arith
  take-below t (suc k) [] a = omega arith
  take-below t (suc k) (x ∷ xs) a = by (cmp x t) refl (take-below t k xs a.1)
    where
      least : is_gt (cmp t x) ≡ false → below t xs ≡ 0
      least g = floor-below t xs (floor-down o t x xs g a.0)

      by : (r : Ordering) → cmp x t ≡ r → below t (take k xs) ≡ min k (below t xs) → cond (is_lt r) 1 0 + below t (take k xs) ≡ min (suc k) (cond (is_lt r) 1 0 + below t xs)
      by Less e rest = omega (arith, rest)
      by Equal e rest = let none = least (ap is_gt (o.total.antisymm t x ∙ ap ordering_reverse e)) in omega (arith, rest, none)
      by Greater e rest = let none = least (ap is_gt (o.total.antisymm t x ∙ ap ordering_reverse e)) in omega (arith, rest, none)

-- ---- the orders by rank and of pairs

same_int : (x y : ℤ) → int_cmp x y ≡ Equal → x ≡ y
same_int x y e = int_ranked x y Equal (sym e)

rank_order-tight : (x y : Tuple) → rank_order x y ≡ Equal → x ≡ y
rank_order-tight x y e =
    let both = both-equal (int_cmp y.value x.value) (key_order x.key y.key) e in
    let values : x.value ≡ y.value = sym (same_int y.value x.value both.0) in
    let keys : x.key ≡ y.key = key_order-tight x.key y.key both.1 in
    λ i. record { key = keys i; value = values i }

rank_order-exact : IsExact rank_order
rank_order-exact = record {
  total = then_total (on_total (λ (t : Tuple). t.value) (back_total int_cmp_total)) (on_total (λ (t : Tuple). t.key) nat_list_cmp_total);
  tight = rank_order-tight;
}

pair_order-tight : (p q : Pair) → pair_order p q ≡ Equal → p ≡ q
pair_order-tight p q e =
    let both = both-equal (key_order p.0 q.0) (int_cmp p.1 q.1) e in
    let keys : p.0 ≡ q.0 = key_order-tight p.0 q.0 both.0 in
    let values : p.1 ≡ q.1 = same_int p.1 q.1 both.1 in
    λ i. (keys i, values i)

pub pair_order-exact : IsExact pair_order
pair_order-exact = record { total = then_total (on_total (λ (p : Pair). p.0) nat_list_cmp_total) (on_total (λ (p : Pair). p.1) int_cmp_total); tight = pair_order-tight }

-- orders that call equal only what is the same agree on it
module _ {X : Type 0} {R S : X → X → Ordering} (r : IsExact R) (s : IsExact S) where
  agree : (x y : X) → is_eq (R x y) ≡ is_eq (S x y)
  agree x y = by (R x y) refl (S x y) refl
    where
      by : (a : Ordering) → R x y ≡ a → (b : Ordering) → S x y ≡ b → is_eq a ≡ is_eq b
      by Equal e Equal f = refl
      by Equal e Less f = let no : Equal ≡ Less = sym (tied_itself s.total x) ∙ ap (λ z. S x z) (r.tight x y e) ∙ f in cc
      by Equal e Greater f = let no : Equal ≡ Greater = sym (tied_itself s.total x) ∙ ap (λ z. S x z) (r.tight x y e) ∙ f in cc
      by Less e Equal f = let no : Equal ≡ Less = sym (tied_itself r.total x) ∙ ap (λ z. R x z) (s.tight x y f) ∙ e in cc
      by Greater e Equal f = let no : Equal ≡ Greater = sym (tied_itself r.total x) ∙ ap (λ z. R x z) (s.tight x y f) ∙ e in cc
      by Less e Less f = refl
      by Less e Greater f = refl
      by Greater e Less f = refl
      by Greater e Greater f = refl

-- ---- the first k by their counts

-- how often t stands in the tuples, and how many of them rank before it
abbrev stands : Tuple → List Tuple → ℕ
stands t ts = here rank_order-exact t ts

abbrev before : Tuple → List Tuple → ℕ
before t ts = below rank_order-exact t ts

top-stands : (t : Tuple) (k : ℕ) (ts : List Tuple) → stands t (top_of k ts) ≡ min (stands t ts) (k - before t ts)
top-stands t k ts =
    count-sorted tuple_order (λ y. is_eq (rank_order t y)) (take k (sorted rank_order ts))
    ∙ take-here rank_order-exact t k (sorted rank_order ts) (sorted-ascends rank_order-exact ts)
    ∙ (let a = count-sorted rank_order (λ y. is_eq (rank_order t y)) ts in let b = count-sorted rank_order (λ y. is_lt (rank_order y t)) ts in omega (arith, a, b))

top-before : (t : Tuple) (k : ℕ) (ts : List Tuple) → before t (top_of k ts) ≡ min k (before t ts)
top-before t k ts =
    count-sorted tuple_order (λ y. is_lt (rank_order y t)) (take k (sorted rank_order ts))
    ∙ take-below rank_order-exact t k (sorted rank_order ts) (sorted-ascends rank_order-exact ts)
    ∙ ap (min k) (count-sorted rank_order (λ y. is_lt (rank_order y t)) ts)

-- the first k are settled by how often each tuple stands among them
top-same : (k : ℕ) (xs ys : List Tuple) → ((t : Tuple) → stands t (top_of k xs) ≡ stands t (top_of k ys)) → top_of k xs ≡ top_of k ys
top-same k xs ys h =
    same-by-times tuple_order-exact (top_of k xs) (top_of k ys) (sorted-ascends tuple_order-exact (take k (sorted rank_order xs))) (sorted-ascends tuple_order-exact (take k (sorted rank_order ys)))
    (λ t. times-count tuple_order t (top_of k xs) ∙ (λ j. count (λ y. agree tuple_order-exact rank_order-exact t y j) (top_of k xs)) ∙ h t
    ∙ (λ j. count (λ y. sym (agree tuple_order-exact rank_order-exact t y) j) (top_of k ys)) ∙ sym (times-count tuple_order t (top_of k ys)))

top-counts : (k : ℕ) (xs ys : List Tuple) → ((p : Tuple → Bool) → count p xs ≡ count p ys) → top_of k xs ≡ top_of k ys
top-counts k xs ys h = top-same k xs ys (λ t. let a = h (λ y. is_eq (rank_order t y)) in let b = h (λ y. is_lt (rank_order y t)) in omega (arith, top-stands t k xs, top-stands t k ys, a, b))

-- the first k of one part may stand for it
top-left : (k : ℕ) (xs ys : List Tuple) → top_of k (top_of k xs ++ ys) ≡ top_of k (xs ++ ys)
top-left k xs ys = top-same k (top_of k xs ++ ys) (xs ++ ys) (λ t.
    let a = count-append (λ y. is_eq (rank_order t y)) (top_of k xs) ys in
    let b = count-append (λ y. is_lt (rank_order y t)) (top_of k xs) ys in
    let c = count-append (λ y. is_eq (rank_order t y)) xs ys in
    let d = count-append (λ y. is_lt (rank_order y t)) xs ys in
    omega (arith, top-stands t k (top_of k xs ++ ys), top-stands t k (xs ++ ys), top-stands t k xs, top-before t k xs, a, b, c, d))

top-right : (k : ℕ) (xs ys : List Tuple) → top_of k (xs ++ top_of k ys) ≡ top_of k (xs ++ ys)
top-right k xs ys = top-same k (xs ++ top_of k ys) (xs ++ ys) (λ t.
    let a = count-append (λ y. is_eq (rank_order t y)) xs (top_of k ys) in
    let b = count-append (λ y. is_lt (rank_order y t)) xs (top_of k ys) in
    let c = count-append (λ y. is_eq (rank_order t y)) xs ys in
    let d = count-append (λ y. is_lt (rank_order y t)) xs ys in
    omega (arith, top-stands t k (xs ++ top_of k ys), top-stands t k (xs ++ ys), top-stands t k ys, top-before t k ys, a, b, c, d))

top-from : (k a n : ℕ) (f : ℕ → List Tuple) →
    top_of k (flat_map (λ part. part) (map (λ i. top_of k (f i)) (range_with_len a n))) ≡ top_of k (flat_map (λ part. part) (map f (range_with_len a n)))
top-from k a zero f = refl
top-from k a (suc n) f =
    top-left k (f a) (flat_map (λ part. part) (map (λ i. top_of k (f i)) (range_with_len (a + 1) n)))
    ∙ sym (top-right k (f a) (flat_map (λ part. part) (map (λ i. top_of k (f i)) (range_with_len (a + 1) n))))
    ∙ ap (λ l. top_of k (f a ++ l)) (top-from k (a + 1) n f)
    ∙ top-right k (f a) (flat_map (λ part. part) (map f (range_with_len (a + 1) n)))

-- the rows of the partitions, unified, are the rows of the whole
pub parts-unify : PartsUnify
unfolding step unify
parts-unify n h (Top k) window state left right =
    let cuts = flat_map (λ part. part) (of_parts n (λ i. top_of k (cut_bag n i left))) in
    top-counts k (bag_of cuts) cuts (λ p. count-sorted tuple_order p cuts)
    ∙ top-from k 0 n (λ i. cut_bag n i left)
    ∙ top-counts k (flat_map (λ part. part) (of_parts n (λ i. cut_bag n i left))) left (λ p. count-all-cuts n (owner_of n) (keys-are-owned n h) (λ (t : Tuple). t.key) p left)
parts-unify n h kind window state left right = keyed-rows n (owner_of n) (keys-are-owned n h) kind window state left right
