-- The orders of keys and of tuples are total, and call equal only what is the same.
use Rattle.std.proofs.Common.{◌≡◌, ◌<◌, ◌∙◌, slice_index_or, ℕ, suc, add-one, arith, ℤ, false, List, [], ◌∷◌, length, refl, sym, ap}
use Rattle.std.specs.declared.cmp.Ordering.{Ordering}
use Rattle.std.specs.declared.cmp.Ordering.TheVariants.{Less, Equal, Greater}
use Rattle.std.specs.Ordering.{nat_cmp, int_cmp, ordering_then, is_gt}
use Rattle.std.specs.Cmp.Lexicographic.{nat_list_cmp_total}
use Rattle.std.proofs.lemmas.Cmp.{ranked, int_ranked, on_total, then_total, int_cmp_total}
use Rattle.std.specs.List.{AllAdjacentBelow}
use Rattle.std.proofs.lemmas.List.{get_or_default}
use native.Mathlib.Numerals.{unary_clauses}
use Rattle.apx_order.specs.Sorted.{IsExact, IsAscending}
use Rattle.apx_order.proofs.Sorting.{floor-down}
use Rattle.apx_tuple.specs.declared.tuple.Tuple.{Tuple}
use Rattle.apx_tuple.specs.Tuple.{key_order, tuple_order}

-- two comparisons in turn that end equal were both equal
pub both-equal : (r s : Ordering) → ordering_then r s ≡ Equal → (r ≡ Equal) × (s ≡ Equal)
both-equal Less s e = cc
both-equal Equal s e = (refl, e)
both-equal Greater s e = cc

nat_cmp-tight : (x y : ℕ) → nat_cmp x y ≡ Equal → x ≡ y
nat_cmp-tight x y e = ranked x y Equal (sym e)

int_cmp-tight : (x y : ℤ) → int_cmp x y ≡ Equal → x ≡ y
int_cmp-tight x y e = int_ranked x y Equal (sym e)

pub key_order-tight : (xs ys : List ℕ) → key_order xs ys ≡ Equal → xs ≡ ys
key_order-tight [] [] e = refl
key_order-tight [] (y ∷ ys) e = cc
key_order-tight (x ∷ xs) [] e = cc
key_order-tight (x ∷ xs) (y ∷ ys) e =
    let both = both-equal (nat_cmp x y) (key_order xs ys) e in
    let first : x ≡ y = nat_cmp-tight x y both.0 in
    let rest : xs ≡ ys = key_order-tight xs ys both.1 in
    cc

pub key_order-exact : IsExact key_order
key_order-exact = record { total = nat_list_cmp_total; tight = key_order-tight }

tuple_order-tight : (x y : Tuple) → tuple_order x y ≡ Equal → x ≡ y
tuple_order-tight x y e =
    let both = both-equal (key_order x.key y.key) (int_cmp x.value y.value) e in
    let keys : x.key ≡ y.key = key_order-tight x.key y.key both.0 in
    let values : x.value ≡ y.value = int_cmp-tight x.value y.value both.1 in
    λ i. record { key = keys i; value = values i }

pub tuple_order-exact : IsExact tuple_order
tuple_order-exact = record {
  total = then_total (on_total (λ (t : Tuple). t.key) nat_list_cmp_total) (on_total (λ (t : Tuple). t.value) int_cmp_total);
  tight = tuple_order-tight;
}

-- keys that compare equal are equally long
pub same-length : (k q : List ℕ) → key_order k q ≡ Equal → length q ≡ length k
same-length k q e = ap length (sym (key_order-tight k q e))

-- no tuple is above the next one
abbrev pub IsStep : Tuple → Tuple → Type 0
IsStep t u = is_gt (tuple_order t u) ≡ false

-- tuples of which none is above the next one ascend
pub steps-ascend : (ts : List Tuple) → AllAdjacentBelow IsStep ts (length ts) → IsAscending tuple_order ts
steps-ascend [] s = tt
steps-ascend (t ∷ []) s = (tt, tt)
steps-ascend (t ∷ u ∷ ts) s =
    let rest = steps-ascend (u ∷ ts) (λ k d l. rw add-one (simp unary_clauses at (s (suc k) d (omega arith)))) in
    let first : is_gt (tuple_order t u) ≡ false = s 0 t (omega arith) in
    ((first, floor-down tuple_order-exact t u ts first rest.0), rest)

-- of two members, each read at its place
pub same-step : (ts : List Tuple) (i j : ℕ) (t u d : Tuple) → i < length ts → j < length ts → t ≡ slice_index_or ts i t → u ≡ slice_index_or ts j u → IsStep t u → IsStep (slice_index_or ts i d) (slice_index_or ts j d)
same-step ts i j t u d k l e f h =
    let first : t ≡ slice_index_or ts i d = e ∙ get_or_default ts i t d k in
    let second : u ≡ slice_index_or ts j d = f ∙ get_or_default ts j u d l in
    ap (λ (p : Tuple × Tuple). is_gt (tuple_order p.0 p.1)) (λ i. (sym first i, sym second i)) ∙ h
