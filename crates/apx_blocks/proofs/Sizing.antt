-- Cuts are no larger than what was cut, and what is put together is as large as all of it.
use Rattle.std.proofs.Common.{◌≡◌, ℕ, zero, suc, ◌+◌, ◌*◌, ◌≤◌, ◌<◌, ◌==◌, Bool, true, false, cond, List, [], ◌∷◌, ◌++◌, length, take, get_or, subst, ◌∙◌, arith}
use Rattle.std.specs.List.{AllByRecursion, filter, flat_map}
use Rattle.std.proofs.lemmas.List.FromFn.{get_or-map-range_with_len, length-map-range_with_len}
use Rattle.apx_codec.specs.KeyNumber.{owner_of}
use Rattle.apx_order.specs.Sorted.{sorted}
use Rattle.apx_rules.specs.Parts.{cut_bag, cut_state, merge_bags, of_parts}
use Rattle.apx_rules.specs.Step.{top_of, rank_order}
use Rattle.apx_shares.specs.Carried.{cut_progress}
use Rattle.apx_tuple.specs.declared.progress.Progress.{Progress}
use Rattle.apx_tuple.specs.declared.tuple.Tuple.{Tuple}
use Rattle.apx_tuple.specs.Progress.{IsLargeProgress}
use Rattle.apx_tuple.specs.Size.{size_by}
use Rattle.apx_tuple.specs.State.{pair_key}
use Rattle.apx_tuple.specs.Tuple.{bag_of, tuple_key}
use Rattle.apx_tuple.proofs.Sizes.{size_by-bag_of, size_by-sorted, size_by-take-le}
use Rattle.apx_keys.specs.Keys.{HaveKeys, IsShort}

-- the size of a bag
abbrev pub size : List Tuple → ℕ
size tuples = size_by tuple_key tuples

size-filter : {X : Type 0} (key : X → List ℕ) (p : X → Bool) (xs : List X) → size_by key (filter p xs) ≤ size_by key xs
size-filter key p [] = omega arith
size-filter key p (x ∷ xs) = by (p x) (size-filter key p xs)
  where
    by : (b : Bool) → size_by key (filter p xs) ≤ size_by key xs → size_by key (cond b (x ∷ filter p xs) (filter p xs)) ≤ size_by key (x ∷ xs)
    by true h = omega (arith, h)
    by false h = omega (arith, h)

pub size-cut : (n i : ℕ) (xs : List Tuple) → size (cut_bag n i xs) ≤ size xs
size-cut n i xs = size-filter tuple_key (λ t. owner_of n t.key == i) xs

pub size-cut-progress : (n i : ℕ) (progress : Progress) → IsLargeProgress (cut_progress n i progress) → IsLargeProgress progress
size-cut-progress n i progress h =
    let state : size_by pair_key (cut_state n i progress.state) ≤ size_by pair_key progress.state = size-filter pair_key (λ p. owner_of n p.0 == i) progress.state in
    omega (arith, h, state, size-cut n i progress.left, size-cut n i progress.right)

pub size-append : (xs ys : List Tuple) → size (xs ++ ys) ≡ size xs + size ys
size-append [] ys = omega arith
size-append (x ∷ xs) ys = let e = size-append xs ys in omega (arith, e)

pub size-joined : (xs ys : List Tuple) → size (bag_of (xs ++ ys)) ≡ size xs + size ys
size-joined xs ys = size_by-bag_of (xs ++ ys) ∙ size-append xs ys

-- one of some bags
size-one : (bags : List (List Tuple)) (k : ℕ) (d : List Tuple) → k < length bags → size (get_or bags k d) ≤ size (flat_map (λ bag. bag) bags)
size-one [] k d h = absurd (omega arith)
size-one (bag ∷ bags) zero d h = let e = size-append bag (flat_map (λ bag. bag) bags) in omega (arith, e)
size-one (bag ∷ bags) (suc k) d h = let e = size-append bag (flat_map (λ bag. bag) bags) in let r = size-one bags k d (omega arith) in omega (arith, e, r)

pub size-part : (n i : ℕ) (f : ℕ → List Tuple) → i < n → size (f i) ≤ size (merge_bags (of_parts n f))
size-part n i f h =
    let there : i < length (of_parts n f) = (let l = length-map-range_with_len f 0 n in omega (arith, l)) in
    let is : get_or (of_parts n f) i [] ≡ f i = get_or-map-range_with_len f 0 n i i [] h (omega arith) in
    let one : size (f i) ≤ size (flat_map (λ bag. bag) (of_parts n f)) = subst (λ (bag : List Tuple). size bag ≤ size (flat_map (λ bag. bag) (of_parts n f))) is (size-one (of_parts n f) i [] there) in
    omega (arith, one, size_by-bag_of (flat_map (λ bag. bag) (of_parts n f)))

-- a bag of at most 1,000 tuples with short keys is no larger than this
abbrev pub IsSmall : List Tuple → Type 0
IsSmall bag = size bag ≤ 1034000

size-all : (bags : List (List Tuple)) → AllByRecursion IsSmall bags → size (flat_map (λ bag. bag) bags) ≤ length bags * 1034000
size-all [] a = omega arith
size-all (bag ∷ bags) a =
    let e = size-append bag (flat_map (λ bag. bag) bags) in
    let one : size bag ≤ 1034000 = a.0 in
    let rest = size-all bags a.1 in
    omega (arith, e, one, rest)

-- all of up to eight small bags
pub size-few : (bags : List (List Tuple)) → AllByRecursion IsSmall bags → length bags ≤ 8 → size (merge_bags bags) ≤ 8272000
size-few bags a few = let all = size-all bags a in omega (arith, all, few, size_by-bag_of (flat_map (λ bag. bag) bags))

-- ---- what is kept of the best

pub size-top : (k : ℕ) (tuples : List Tuple) → size (top_of k tuples) ≤ size tuples
size-top k tuples =
    omega (arith, size_by-bag_of (take k (sorted rank_order tuples)), size_by-take-le tuple_key (sorted rank_order tuples) k, size_by-sorted tuple_key rank_order tuples)

-- short keys in a bag of so many tuples
pub size-short : (tuples : List Tuple) → HaveKeys IsShort tuples → size tuples ≤ length tuples * 1034
size-short [] h = omega arith
size-short (t ∷ tuples) h = let one : length t.key ≤ 1024 = h.0 in let rest = size-short tuples h.1 in omega (arith, one, rest)
