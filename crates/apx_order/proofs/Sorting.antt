-- Ascending lists are equal where each member stands in them equally often; so what a sort gives is `sorted`.
use Rattle.std.proofs.Common.{◌≡◌, ℕ, ◌+◌, Bool, true, false, cond, List, [], ◌∷◌, ◌++◌, refl, sym, ap, ◌∙◌, arith, add-one, suc}
use native.Mathlib.Numerals.{unary_clauses}
use Rattle.std.specs.declared.cmp.Ordering.{Ordering}
use Rattle.std.specs.declared.cmp.Ordering.TheVariants.{Less, Equal, Greater}
use Rattle.std.specs.Ordering.{is_gt, is_lt, is_eq, ordering_reverse}
use Rattle.std.specs.Cmp.{upto, tied_itself}
use Rattle.std.specs.List.{sum_by}
use Rattle.std.specs.List.Sorted.{IsPermutation, IsSorted}
use Rattle.std.proofs.lemmas.List.Sums.{sum_by-cons}
use Rattle.std.proofs.lemmas.List.Sorted.{sum_by-IsPermutation}
use Rattle.apx_order.specs.Sorted.{IsExact, with_member, sorted, times, IsFloor, IsAscending}

module _ {X : Type 0} (cmp : X → X → Ordering) where
  -- the same count as a sum over the members
  times-sum : (x : X) (xs : List X) → times cmp x xs ≡ sum_by (λ y. cond (is_eq (cmp x y)) 1 0) xs
  unfolding times
  times-sum x [] = refl
  times-sum x (y ∷ ys) = ap (λ n. cond (is_eq (cmp x y)) 1 0 + n) (times-sum x ys) ∙ sym (sum_by-cons (λ z. cond (is_eq (cmp x z)) 1 0) y ys)

  -- an exchange of members leaves each count
  pub times-permutation : (x : X) (xs ys : List X) → IsPermutation xs ys → times cmp x ys ≡ times cmp x xs
  times-permutation x xs ys p = times-sum x ys ∙ sum_by-IsPermutation (λ y. cond (is_eq (cmp x y)) 1 0) xs ys p ∙ sym (times-sum x xs)

  pub times-append : (x : X) (xs ys : List X) → times cmp x (xs ++ ys) ≡ times cmp x xs + times cmp x ys
  unfolding times
  times-append x [] ys = omega arith
  times-append x (y ∷ xs) ys = omega (arith, times-append x xs ys)

  with_member-times : (x y : X) (ys : List X) → times cmp x (with_member cmp y ys) ≡ times cmp x (y ∷ ys)
  unfolding with_member times
  with_member-times x y [] = refl
  with_member-times x y (z ∷ zs) = by (is_gt (cmp y z)) (with_member-times x y zs)
    where
      by : (b : Bool) → times cmp x (with_member cmp y zs) ≡ times cmp x (y ∷ zs) → times cmp x (cond b (z ∷ with_member cmp y zs) (y ∷ z ∷ zs)) ≡ times cmp x (y ∷ z ∷ zs)
      by true h = omega (arith, h)
      by false h = refl

  -- sorting leaves each count
  pub sorted-times : (x : X) (xs : List X) → times cmp x (sorted cmp xs) ≡ times cmp x xs
  unfolding sorted times
  sorted-times x [] = refl
  sorted-times x (y ∷ ys) = with_member-times x y (sorted cmp ys) ∙ ap (λ n. cond (is_eq (cmp x y)) 1 0 + n) (sorted-times x ys)

module _ {X : Type 0} {cmp : X → X → Ordering} (o : IsExact cmp) where
  pub turned : (x y : X) → is_gt (cmp x y) ≡ true → is_gt (cmp y x) ≡ false
  turned x y h = by (cmp x y) (cmp y x) h (o.total.antisymm x y)
    where
      by : (r s : Ordering) → is_gt r ≡ true → r ≡ ordering_reverse s → is_gt s ≡ false
      by r Less h e = refl
      by r Equal h e = refl
      by Less Greater h e = cc
      by Equal Greater h e = cc
      by Greater Greater h e = cc

  pub floor-down : (x y : X) (ys : List X) → is_gt (cmp x y) ≡ false → IsFloor cmp y ys → IsFloor cmp x ys
  floor-down x y [] h f = tt
  floor-down x y (z ∷ zs) h f = (upto o.total x y z h f.0, floor-down x y zs h f.1)

  with_member-floor : (x y : X) (ys : List X) → is_gt (cmp x y) ≡ false → IsFloor cmp x ys → IsFloor cmp x (with_member cmp y ys)
  unfolding with_member
  with_member-floor x y [] h f = (h, tt)
  with_member-floor x y (z ∷ zs) h f = by (is_gt (cmp y z)) (with_member-floor x y zs h f.1)
    where
      by : (b : Bool) → IsFloor cmp x (with_member cmp y zs) → IsFloor cmp x (cond b (z ∷ with_member cmp y zs) (y ∷ z ∷ zs))
      by true rest = (f.0, rest)
      by false rest = (h, f)

  with_member-ascends : (x : X) (ys : List X) → IsAscending cmp ys → IsAscending cmp (with_member cmp x ys)
  unfolding with_member
  with_member-ascends x [] a = (tt, tt)
  with_member-ascends x (y ∷ ys) a = by (is_gt (cmp x y)) refl (with_member-ascends x ys a.1)
    where
      by : (b : Bool) → is_gt (cmp x y) ≡ b → IsAscending cmp (with_member cmp x ys) → IsAscending cmp (cond b (y ∷ with_member cmp x ys) (x ∷ y ∷ ys))
      by true h rest = (with_member-floor y x ys (turned x y h) a.0, rest)
      by false h rest = ((h, floor-down x y ys h a.0), a)

  pub sorted-ascends : (xs : List X) → IsAscending cmp (sorted cmp xs)
  unfolding sorted
  sorted-ascends [] = tt
  sorted-ascends (x ∷ xs) = with_member-ascends x (sorted cmp xs) (sorted-ascends xs)

  -- what is below each member stands nowhere
  times-below : (x y : X) (ys : List X) → cmp x y ≡ Less → IsFloor cmp y ys → times cmp x ys ≡ 0
  unfolding times
  times-below x y [] h f = refl
  times-below x y (z ∷ zs) h f = by (cmp x z) refl (times-below x y zs h f.1)
    where
      by : (r : Ordering) → cmp x z ≡ r → times cmp x zs ≡ 0 → cond (is_eq r) 1 0 + times cmp x zs ≡ 0
      by Less e rest = omega arith
      by Greater e rest = omega arith
      by Equal e rest = absurd (let back : cmp z x ≡ Equal = o.total.antisymm z x ∙ ap ordering_reverse e in
          let same : cmp z y ≡ cmp x y = o.total.congr z x y back in
          let above : cmp y z ≡ Greater = o.total.antisymm y z ∙ ap ordering_reverse (same ∙ h) in
          let no : is_gt (cmp y z) ≡ false = f.0 in
          cc)

  times-front : (x : X) (xs : List X) → times cmp x (x ∷ xs) ≡ 1 + times cmp x xs
  unfolding times
  times-front x xs = ap (λ r. cond (is_eq r) 1 0 + times cmp x xs) (tied_itself o.total x)

  pub times-less : (x y : X) (ys : List X) → cmp x y ≡ Less → IsFloor cmp y ys → times cmp x (y ∷ ys) ≡ 0
  times-less x y ys h f = times-below x y (y ∷ ys) h (ap is_gt (tied_itself o.total y), f)

  -- ascending lists are one list where each member stands in them equally often
  pub same-by-times : (xs ys : List X) → IsAscending cmp xs → IsAscending cmp ys → ((x : X) → times cmp x xs ≡ times cmp x ys) → xs ≡ ys
  unfolding times
  same-by-times [] [] a b h = refl
  same-by-times [] (y ∷ ys) a b h = absurd (omega (arith, h y, times-front y ys))
  same-by-times (x ∷ xs) [] a b h = absurd (omega (arith, h x, times-front x xs))
  same-by-times (x ∷ xs) (y ∷ ys) a b h = by (cmp x y) refl (same-by-times xs ys a.1 b.1)
    where
      tails : x ≡ y → (z : X) → times cmp z xs ≡ times cmp z ys
      tails e z =
          let here : X → ℕ = λ w. cond (is_eq (cmp z w)) 1 0 in
          let p : here x ≡ here y = ap here e in
          omega (arith, h z, p)

      by : (r : Ordering) → cmp x y ≡ r → (((z : X) → times cmp z xs ≡ times cmp z ys) → xs ≡ ys) → x ∷ xs ≡ y ∷ ys
      by Less e more = absurd (omega (arith, h x, times-front x xs, times-less x y ys e b.0))
      by Greater e more = absurd (omega (arith, h y, times-front y ys, times-less y x xs (o.total.antisymm y x ∙ ap ordering_reverse e) a.0))
      by Equal e more = let same : x ≡ y = o.tight x y e in let rest : xs ≡ ys = more (tails same) in cc

  -- the order of std's sorts, member by member
  pub step-down : (x y : X) → is_lt (cmp y x) ≡ false → is_gt (cmp x y) ≡ false
  step-down x y h = by (cmp x y) (cmp y x) h (o.total.antisymm x y)
    where
      by : (r s : Ordering) → is_lt s ≡ false → r ≡ ordering_reverse s → is_gt r ≡ false
      by Less s h e = refl
      by Equal s h e = refl
      by Greater Less h e = cc
      by Greater Equal h e = cc
      by Greater Greater h e = cc

  tail-sorted : (x : X) (xs : List X) → IsSorted cmp (x ∷ xs) → IsSorted cmp xs
  tail-sorted x xs s = λ k d low high. rw add-one (simp unary_clauses at (s (suc k) d (omega arith) (omega arith)))

  pub ascends-from-sorted : (xs : List X) → IsSorted cmp xs → IsAscending cmp xs
  ascends-from-sorted [] s = tt
  ascends-from-sorted (x ∷ []) s = (tt, tt)
  ascends-from-sorted (x ∷ y ∷ ys) s =
      let rest : IsAscending cmp (y ∷ ys) = ascends-from-sorted (y ∷ ys) (tail-sorted x (y ∷ ys) s) in
      let first : is_gt (cmp x y) ≡ false = step-down x y (s 0 x (omega arith) (omega arith)) in
      ((first, floor-down x y ys first rest.0), rest)

  -- what a sort gives is the sorted list
  pub sorted-by-sort : (xs ys : List X) → IsPermutation xs ys → IsSorted cmp ys → ys ≡ sorted cmp xs
  sorted-by-sort xs ys p s =
      same-by-times ys (sorted cmp xs) (ascends-from-sorted ys s) (sorted-ascends xs)
      (λ x. times-permutation cmp x xs ys p ∙ sym (sorted-times cmp x xs))

  -- an ascending list is its own sorted list
  pub sorted-of-ascending : (xs : List X) → IsAscending cmp xs → sorted cmp xs ≡ xs
  sorted-of-ascending xs a = same-by-times (sorted cmp xs) xs (sorted-ascends xs) a (λ x. sorted-times cmp x xs)
