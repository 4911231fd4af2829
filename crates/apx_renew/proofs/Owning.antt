-- States of partitions, each of which has keys of its own partition alone, have each key once together.
use Rattle.std.proofs.Common.{◌≡◌, ℕ, zero, suc, ◌+◌, ◌≤◌, ◌<◌, ◌==◌, Bool, true, false, cond, List, [], ◌∷◌, ◌++◌, length, get_or, refl, ap, subst, ◌∙◌, arith}
use Rattle.std.specs.declared.cmp.Ordering.{Ordering}
use Rattle.std.specs.declared.cmp.Ordering.TheVariants.{Less, Equal, Greater}
use Rattle.std.specs.Ordering.{is_eq}
use Rattle.std.specs.List.{flat_map}
use Rattle.std.specs.List.Sorted.{IsStrictlySortedBy}
use Rattle.std.specs.Map.{keys_of}
use Rattle.std.proofs.lemmas.Bool.{eqb-true}
use Rattle.apx_codec.specs.KeyNumber.{owner_of}
use Rattle.apx_tuple.specs.State.{Pair}
use Rattle.apx_tuple.specs.Tuple.{key_order}
use Rattle.apx_tuple.proofs.Orders.{key_order-exact}
use Rattle.apx_rules.specs.Parts.{cut_state, merge_states, pair_order}
use Rattle.apx_shares.proofs.Sums.{count, count-append, count-sorted}
use Rattle.apx_split.specs.Kept.{AreOnce}
use Rattle.apx_split.proofs.Joining.{keys-count, cut-once}
use Rattle.apx_renew.specs.Owned.{IsOwn, AreOwn}

-- the pairs with a key
abbrev with_key : List ℕ → Pair → Bool
with_key q p = is_eq (key_order q p.0)

same_key : (q k : List ℕ) → is_eq (key_order q k) ≡ true → q ≡ k
same_key q k e = by (key_order q k) refl e
  where
    by : (r : Ordering) → key_order q k ≡ r → is_eq r ≡ true → q ≡ k
    by Less is e = cc
    by Equal is e = key_order-exact.tight q k is
    by Greater is e = cc

own_found : (n i : ℕ) (q : List ℕ) (xs : List Pair) → 0 < count (with_key q) (cut_state n i xs) → owner_of n q ≡ i
own_found n i q [] h = absurd (omega arith)
own_found n i q (x ∷ xs) h = by (own_found n i q xs) (owner_of n x.0 == i) refl h
  where
    here : (0 < count (with_key q) (cut_state n i xs) → owner_of n q ≡ i) → (t : Bool) → with_key q x ≡ t → (owner_of n x.0 == i) ≡ true → 0 < cond t 1 0 + count (with_key q) (cut_state n i xs) → owner_of n q ≡ i
    here rest true is owned pos = ap (owner_of n) (same_key q x.0 is) ∙ eqb-true (owner_of n x.0) i owned
    here rest false is owned pos = rest (omega (arith, pos))

    by : (0 < count (with_key q) (cut_state n i xs) → owner_of n q ≡ i) → (t : Bool) → (owner_of n x.0 == i) ≡ t → 0 < count (with_key q) (cond t (x ∷ cut_state n i xs) (cut_state n i xs)) → owner_of n q ≡ i
    by rest true owned pos = here rest (with_key q x) refl owned pos
    by rest false owned pos = rest pos

-- what is cut for a partition is its own
pub own_cut : (n i : ℕ) (state : List Pair) → IsStrictlySortedBy key_order (keys_of state) → IsOwn n i (cut_state n i state)
own_cut n i state a = record {
  once = λ q. cut-once n i state a q;
  own = λ q pos. own_found n i q state (omega (arith, pos, keys-count q (cut_state n i state)));
}

-- all pairs of the states from one partition on
own_all : (n start : ℕ) (q : List ℕ) (parts : List (List Pair)) → ((k : ℕ) → k < length parts → IsOwn n (start + k) (get_or parts k [])) →
    (count (with_key q) (flat_map (λ part. part) parts) ≤ 1) × (owner_of n q < start → count (with_key q) (flat_map (λ part. part) parts) ≡ 0)
own_all n start q [] own = (omega arith, λ lt. refl)
own_all n start q (part ∷ parts) own =
    let first : IsOwn n start part = (let e : start + 0 ≡ start = omega arith in subst (λ (k : ℕ). IsOwn n k part) e (own 0 (omega arith))) in
    let rest = own_all n (start + 1) q parts (λ k lt. (let e : start + suc k ≡ start + 1 + k = omega arith in subst (λ (j : ℕ). IsOwn n j (get_or parts k [])) e (own (suc k) (omega (arith, lt))))) in
    let joined = count-append (with_key q) part (flat_map (λ part. part) parts) in
    by first rest joined (count (with_key q) part) refl
  where
    by : IsOwn n start part → (count (with_key q) (flat_map (λ part. part) parts) ≤ 1) × (owner_of n q < start + 1 → count (with_key q) (flat_map (λ part. part) parts) ≡ 0)
        → count (with_key q) (part ++ flat_map (λ part. part) parts) ≡ count (with_key q) part + count (with_key q) (flat_map (λ part. part) parts)
        → (c : ℕ) → c ≡ count (with_key q) part
        → (count (with_key q) (part ++ flat_map (λ part. part) parts) ≤ 1) × (owner_of n q < start → count (with_key q) (part ++ flat_map (λ part. part) parts) ≡ 0)
    by first rest joined zero e = (omega (arith, joined, e, rest.0), λ lt. omega (arith, joined, e, rest.1 (omega (arith, lt))))
    by first rest joined (suc c) e =
        let is : owner_of n q ≡ start = first.own q (omega (arith, e, keys-count q part)) in
        (omega (arith, joined, first.once q, keys-count q part, rest.1 (omega (arith, is))), λ lt. absurd (omega (arith, lt, is)))

-- the states of all partitions
pub own_once : (n : ℕ) (parts : List (List Pair)) → AreOwn n parts → AreOnce (merge_states parts)
own_once n parts own q =
    let all = own_all n 0 q parts (λ k lt. (let e : k ≡ 0 + k = omega arith in subst (λ (j : ℕ). IsOwn n j (get_or parts k [])) e (own k lt))) in
    omega (arith, all.0, keys-count q (merge_states parts), count-sorted pair_order (with_key q) (flat_map (λ part. part) parts))
