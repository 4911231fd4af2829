-- What a sort by a part of each member gives, seen by those parts.
use Rattle.std.proofs.Common.{◌≡◌, false, List, [], ◌∷◌, map, sym, ap, ◌∙◌, arith, add-one, suc}
use native.Mathlib.Numerals.{unary_clauses}
use Rattle.std.specs.declared.cmp.Ordering.{Ordering}
use Rattle.std.specs.Ordering.{is_gt}
use Rattle.std.specs.List.Sorted.{IsPermutation, IsSorted}
use Rattle.std.proofs.lemmas.List.Sorted.{IsPermutation-map}
use Rattle.apx_order.specs.Sorted.{IsExact, times, sorted, IsAscending}
use Rattle.apx_order.proofs.Sorting.{step-down, floor-down, same-by-times, sorted-ascends, sorted-times, times-permutation}

tail-by : {Y : Type 0} (order : Y → Y → Ordering) (y : Y) (ys : List Y) → IsSorted order (y ∷ ys) → IsSorted order ys
tail-by order y ys s = λ k d low high. rw add-one (simp unary_clauses at (s (suc k) d (omega arith) (omega arith)))

module _ {X Y : Type 0} {cmp : X → X → Ordering} (o : IsExact cmp) (part : Y → X) where
  pub ascends-by : (ys : List Y) → IsSorted (λ x y. cmp (part x) (part y)) ys → IsAscending cmp (map part ys)
  ascends-by [] s = tt
  ascends-by (x ∷ []) s = (tt, tt)
  ascends-by (x ∷ y ∷ ys) s =
      let rest : IsAscending cmp (map part (y ∷ ys)) = ascends-by (y ∷ ys) (tail-by (λ x y. cmp (part x) (part y)) x (y ∷ ys) s) in
      let first : is_gt (cmp (part x) (part y)) ≡ false = step-down o (part x) (part y) (s 0 x (omega arith) (omega arith)) in
      ((first, floor-down o (part x) (part y) (map part ys) first rest.0), rest)

  -- the parts of what a sort gives are the sorted parts
  pub sorted-by-part : (xs : List X) (ys zs : List Y) → map part ys ≡ xs → IsPermutation ys zs → IsSorted (λ x y. cmp (part x) (part y)) zs → map part zs ≡ sorted cmp xs
  sorted-by-part xs ys zs e p s =
      same-by-times o (map part zs) (sorted cmp xs) (ascends-by zs s) (sorted-ascends o xs)
      (λ x. times-permutation cmp x (map part ys) (map part zs) (IsPermutation-map part ys zs p) ∙ ap (times cmp x) e ∙ sym (sorted-times cmp x xs))
