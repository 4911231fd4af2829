-- What holds of each member of some lists holds of each member of what is made of them.
use Rattle.std.proofs.Common.{ℕ, zero, suc, Bool, true, false, cond, List, [], ◌∷◌, ◌++◌, map, take}
use Rattle.std.specs.declared.cmp.Ordering.{Ordering}
use Rattle.std.specs.declared.cmp.Ordering.TheVariants.{Less, Equal, Greater}
use Rattle.std.specs.List.{AllByRecursion, filter, flat_map}
use Rattle.std.specs.Ordering.{is_gt, match_ordering}
use Rattle.apx_order.specs.Sorted.{with_member, sorted, with_once, each_once}

module _ {X : Type 0} (P : X → Type 0) where
  pub each-append : (xs ys : List X) → AllByRecursion P xs → AllByRecursion P ys → AllByRecursion P (xs ++ ys)
  each-append [] ys a b = b
  each-append (x ∷ xs) ys a b = (a.0, each-append xs ys a.1 b)

  pub each-filter : (p : X → Bool) (xs : List X) → AllByRecursion P xs → AllByRecursion P (filter p xs)
  each-filter p [] a = tt
  each-filter p (x ∷ xs) a = by (p x) (each-filter p xs a.1)
    where
      by : (b : Bool) → AllByRecursion P (filter p xs) → AllByRecursion P (cond b (x ∷ filter p xs) (filter p xs))
      by true rest = (a.0, rest)
      by false rest = rest

  pub each-take : (k : ℕ) (xs : List X) → AllByRecursion P xs → AllByRecursion P (take k xs)
  each-take zero [] a = tt
  each-take zero (x ∷ xs) a = tt
  each-take (suc k) [] a = tt
  each-take (suc k) (x ∷ xs) a = (a.0, each-take k xs a.1)

  pub each-chosen : (b : Bool) (xs ys : List X) → AllByRecursion P xs → AllByRecursion P ys → AllByRecursion P (cond b xs ys)
  each-chosen true xs ys a c = a
  each-chosen false xs ys a c = c

  module _ (cmp : X → X → Ordering) where
    with-member : (x : X) (xs : List X) → P x → AllByRecursion P xs → AllByRecursion P (with_member cmp x xs)
    unfolding with_member
    with-member x [] h a = (h, tt)
    with-member x (y ∷ ys) h a = by (is_gt (cmp x y)) (with-member x ys h a.1)
      where
        by : (b : Bool) → AllByRecursion P (with_member cmp x ys) → AllByRecursion P (cond b (y ∷ with_member cmp x ys) (x ∷ y ∷ ys))
        by true rest = (a.0, rest)
        by false rest = (h, a)

    pub each-sorted : (xs : List X) → AllByRecursion P xs → AllByRecursion P (sorted cmp xs)
    unfolding sorted
    each-sorted [] a = tt
    each-sorted (x ∷ xs) a = with-member x (sorted cmp xs) a.0 (each-sorted xs a.1)

    with-once : (x : X) (xs : List X) → P x → AllByRecursion P xs → AllByRecursion P (with_once cmp x xs)
    unfolding with_once
    with-once x [] h a = (h, tt)
    with-once x (y ∷ ys) h a = by (cmp x y) (with-once x ys h a.1)
      where
        by : (r : Ordering) → AllByRecursion P (with_once cmp x ys) → AllByRecursion P (match_ordering r (x ∷ y ∷ ys) (y ∷ ys) (y ∷ with_once cmp x ys))
        by Less rest = (h, a)
        by Equal rest = a
        by Greater rest = (a.0, rest)

    pub each-once : (xs : List X) → AllByRecursion P xs → AllByRecursion P (each_once cmp xs)
    unfolding each_once
    each-once [] a = tt
    each-once (x ∷ xs) a = with-once x (each_once cmp xs) a.0 (each-once xs a.1)

pub each-map : {X Y : Type 0} (P : X → Type 0) (Q : Y → Type 0) (f : X → Y) → ((x : X) → P x → Q (f x)) → (xs : List X) → AllByRecursion P xs → AllByRecursion Q (map f xs)
each-map P Q f h [] a = tt
each-map P Q f h (x ∷ xs) a = (h x a.0, each-map P Q f h xs a.1)

-- whatever the members are
pub each-made : {X Y : Type 0} (Q : Y → Type 0) (f : X → Y) → ((x : X) → Q (f x)) → (xs : List X) → AllByRecursion Q (map f xs)
each-made Q f h [] = tt
each-made Q f h (x ∷ xs) = (h x, each-made Q f h xs)

pub each-flat : {X Y : Type 0} (P : X → Type 0) (Q : Y → Type 0) (f : X → List Y) → ((x : X) → P x → AllByRecursion Q (f x)) → (xs : List X) → AllByRecursion P xs → AllByRecursion Q (flat_map f xs)
each-flat P Q f h [] a = tt
each-flat P Q f h (x ∷ xs) a = each-append Q (f x) (flat_map f xs) (h x a.0) (each-flat P Q f h xs a.1)

pub each-flat-made : {X Y : Type 0} (Q : Y → Type 0) (f : X → List Y) → ((x : X) → AllByRecursion Q (f x)) → (xs : List X) → AllByRecursion Q (flat_map f xs)
each-flat-made Q f h [] = tt
each-flat-made Q f h (x ∷ xs) = each-append Q (f x) (flat_map f xs) (h x) (each-flat-made Q f h xs)
