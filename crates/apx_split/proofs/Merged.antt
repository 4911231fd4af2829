-- States that are merged one after the other.
use Rattle.std.proofs.Common.{◌≡◌, ℕ, ◌+◌, ◌≤◌, ◌<◌, zero, suc, Bool, List, [], ◌∷◌, ◌++◌, length, take, get_or, refl, sym, ap, subst, ◌∙◌, arith}
use Rattle.std.specs.Ordering.{is_eq}
use Rattle.std.specs.List.{flat_map}
use Rattle.std.specs.List.Sorted.{IsStrictlySortedBy}
use Rattle.std.specs.Map.{keys_of}
use Rattle.std.proofs.lemmas.List.{take_more}
use Rattle.apx_order.specs.Sorted.{sorted, IsAscending}
use Rattle.apx_order.proofs.Sorting.{sorted-times, sorted-ascends, same-by-times}
use Rattle.apx_tuple.specs.declared.progress.Progress.{Progress}
use Rattle.apx_tuple.specs.Size.{size_by, IsLarge}
use Rattle.apx_tuple.specs.State.{Pair, pair_key}
use Rattle.apx_tuple.specs.Tuple.{key_order}
use Rattle.apx_tuple.proofs.Sizes.{size_by-sorted}
use Rattle.apx_rules.specs.Parts.{merge_states, of_parts, pair_order}
use Rattle.apx_shares.specs.Carried.{cut_progress, merge_progress}
use Rattle.apx_shares.specs.Laws.{IsOrdered}
use Rattle.apx_shares.proofs.Merging.{cuts-merge}
use Rattle.apx_shares.proofs.Ordered.{strictly-once}
use Rattle.apx_shares.proofs.Sums.{count, times-count, count-append, count-sorted}
use Rattle.apx_shares.proofs.Tops.{pair_order-exact}
use Rattle.apx_split.specs.Kept.{AreOnce}
use Rattle.apx_split.proofs.Joining.{keys-count}

-- all pairs of some states
abbrev pub all_of : List (List Pair) → List Pair
all_of parts = flat_map (λ part. part) parts

all-append : (xs ys : List (List Pair)) → all_of (xs ++ ys) ≡ all_of xs ++ all_of ys
all-append [] ys = refl
all-append (x ∷ xs) ys = ap (λ l. x ++ l) (all-append xs ys) ∙ sym (assoc x (all_of xs) (all_of ys))
  where
    assoc : (us bs cs : List Pair) → (us ++ bs) ++ cs ≡ us ++ (bs ++ cs)
    assoc [] bs cs = refl
    assoc (u ∷ us) bs cs = ap (λ l. u ∷ l) (assoc us bs cs)

nil : (xs : List Pair) → xs ++ [] ≡ xs
nil [] = refl
nil (x ∷ xs) = ap (λ l. x ∷ l) (nil xs)

-- the first ones have no more than all
count-first : (p : Pair → Bool) (parts : List (List Pair)) (k : ℕ) → count p (all_of (take k parts)) ≤ count p (all_of parts)
count-first p parts zero = omega arith
count-first p [] (suc k) = omega arith
count-first p (part ∷ parts) (suc k) = omega (arith, count-first p parts k, count-append p part (all_of (take k parts)), count-append p part (all_of parts))

size-append : (xs ys : List Pair) → size_by pair_key (xs ++ ys) ≡ size_by pair_key xs + size_by pair_key ys
size-append [] ys = omega arith
size-append (x ∷ xs) ys = omega (arith, size-append xs ys)

size-first : (parts : List (List Pair)) (k : ℕ) → size_by pair_key (all_of (take k parts)) ≤ size_by pair_key (all_of parts)
size-first parts zero = omega arith
size-first [] (suc k) = omega arith
size-first (part ∷ parts) (suc k) = omega (arith, size-first parts k, size-append part (all_of (take k parts)), size-append part (all_of parts))

module _ (parts : List (List Pair)) (k : ℕ) (part merged : List Pair) (there : k < length parts) (is : part ≡ get_or parts k part) (so-far : merged ≡ merge_states (take k parts)) where
  one-more : all_of (take (k + 1) parts) ≡ all_of (take k parts) ++ part
  one-more =
      ap all_of (take_more parts k part there ∙ ap (λ (x : List Pair). take k parts ++ x ∷ []) (sym is))
      ∙ all-append (take k parts) (part ∷ []) ∙ ap (λ (l : List Pair). all_of (take k parts) ++ l) (nil part)

  counted : (p : Pair → Bool) → count p (merged ++ part) ≡ count p (all_of (take (k + 1) parts))
  counted p =
      omega (arith, count-append p merged part, ap (count p) so-far, count-sorted pair_order p (all_of (take k parts)), ap (count p) one-more, count-append p (all_of (take k parts)) part)

  pub merged-once : AreOnce (merge_states parts) → AreOnce (merged ++ part)
  merged-once once q =
      let p : Pair → Bool = λ (x : Pair). is_eq (key_order q x.0) in
      omega (arith, once q, keys-count q (merge_states parts), count-sorted pair_order p (all_of parts), keys-count q (merged ++ part), counted p, count-first p parts (k + 1))

  pub merged-ordered : IsAscending pair_order merged
  merged-ordered = subst (λ (ps : List Pair). IsAscending pair_order ps) (sym so-far) (sorted-ascends pair_order-exact (all_of (take k parts)))

  pub merged-more : sorted pair_order (merged ++ part) ≡ merge_states (take (k + 1) parts)
  merged-more =
      same-by-times pair_order-exact (sorted pair_order (merged ++ part)) (merge_states (take (k + 1) parts)) (sorted-ascends pair_order-exact (merged ++ part)) (sorted-ascends pair_order-exact (all_of (take (k + 1) parts)))
      (λ p. sorted-times pair_order p (merged ++ part) ∙ times-count pair_order p (merged ++ part) ∙ counted (λ q. is_eq (pair_order p q))
      ∙ sym (times-count pair_order p (all_of (take (k + 1) parts))) ∙ sym (sorted-times pair_order p (all_of (take (k + 1) parts))))

  pub merged-large : IsLarge pair_key (sorted pair_order (merged ++ part)) → IsLarge pair_key (merge_states parts)
  merged-large large =
      omega (arith, large, ap (size_by pair_key) merged-more, size_by-sorted pair_key pair_order (all_of (take (k + 1) parts)), size_by-sorted pair_key pair_order (all_of parts), size-first parts (k + 1))

-- nothing is merged at first, and all at the end
pub none-merged : merge_states [] ≡ []
unfolding sorted
none-merged = refl

take-past : {X : Type 0} (xs : List X) (k : ℕ) → length xs ≤ k → take k xs ≡ xs
take-past [] zero h = refl
take-past [] (suc k) h = refl
take-past (x ∷ xs) zero h = absurd (omega arith)
take-past (x ∷ xs) (suc k) h = ap (λ l. x ∷ l) (take-past xs k (omega arith))

pub merged-all : (parts : List (List Pair)) (k : ℕ) (merged : List Pair) → length parts ≤ k → merged ≡ merge_states (take k parts) → merged ≡ merge_states parts
merged-all parts k merged h e = e ∙ ap merge_states (take-past parts k h)

-- the cuts of what an operator carries have each key once
pub carried-once : (n : ℕ) → 1 ≤ n → (progress : Progress) → IsOrdered progress → AreOnce (merge_progress (of_parts n (λ i. cut_progress n i progress))).state
carried-once n h progress o = subst (λ (g : Progress). AreOnce g.state) (sym (cuts-merge n h progress o)) (λ q. strictly-once q (keys_of progress.state) o.state)
