-- What is made of each member of a list is the same in any order.
use Rattle.std.proofs.Common.{◌≡◌, ℕ, ◌+◌, Bool, true, false, cond, List, [], ◌∷◌, refl, sym, ap, ◌∙◌, arith}
use Rattle.std.specs.declared.cmp.Ordering.{Ordering}
use Rattle.std.specs.Ordering.{is_gt, is_eq}
use Rattle.std.specs.List.{flat_map}
use Rattle.apx_order.specs.Sorted.{IsExact, with_member, sorted, times}
use Rattle.apx_order.proofs.Sorting.{times-append, sorted-times, sorted-ascends, same-by-times}
use Rattle.apx_tuple.specs.declared.tuple.Tuple.{Tuple}
use Rattle.apx_tuple.specs.Tuple.{tuple_order, bag_of}
use Rattle.apx_tuple.proofs.Orders.{tuple_order-exact}

-- a number for each member, added up
abbrev sum_over : {X : Type 0} → (X → ℕ) → List X → ℕ
sum_over f [] = 0
sum_over f (x ∷ xs) = f x + sum_over f xs

module _ {X : Type 0} (cmp : X → X → Ordering) (f : X → ℕ) where
  sum-member : (x : X) (ys : List X) → sum_over f (with_member cmp x ys) ≡ f x + sum_over f ys
  unfolding with_member
  sum-member x [] = refl
  sum-member x (y ∷ ys) = by (is_gt (cmp x y)) (sum-member x ys)
    where
      by : (b : Bool) → sum_over f (with_member cmp x ys) ≡ f x + sum_over f ys → sum_over f (cond b (y ∷ with_member cmp x ys) (x ∷ y ∷ ys)) ≡ f x + (f y + sum_over f ys)
      by true rest = omega (arith, rest)
      by false rest = refl

  sum-sorted : (xs : List X) → sum_over f (sorted cmp xs) ≡ sum_over f xs
  unfolding sorted
  sum-sorted [] = refl
  sum-sorted (x ∷ xs) = sum-member x (sorted cmp xs) ∙ ap (λ n. f x + n) (sum-sorted xs)

-- ---- an order after another one

times-sum : {X : Type 0} (cmp : X → X → Ordering) (x : X) (xs : List X) → times cmp x xs ≡ sum_over (λ y. cond (is_eq (cmp x y)) 1 0) xs
unfolding times
times-sum cmp x [] = refl
times-sum cmp x (y ∷ ys) = ap (λ n. cond (is_eq (cmp x y)) 1 0 + n) (times-sum cmp x ys)

-- the order in which members come doesn't count for a sort
pub sorted-sorted : {X : Type 0} {cmp : X → X → Ordering} (o : IsExact cmp) (other : X → X → Ordering) (xs : List X) → sorted cmp (sorted other xs) ≡ sorted cmp xs
sorted-sorted {cmp = cmp} o other xs =
    same-by-times o (sorted cmp (sorted other xs)) (sorted cmp xs) (sorted-ascends o (sorted other xs)) (sorted-ascends o xs)
    (λ x. sorted-times cmp x (sorted other xs) ∙ times-sum cmp x (sorted other xs)
    ∙ sum-sorted other (λ y. cond (is_eq (cmp x y)) 1 0) xs ∙ sym (times-sum cmp x xs) ∙ sym (sorted-times cmp x xs))

-- ---- what is made of each tuple

times-made : (make : Tuple → List Tuple) (u : Tuple) (ts : List Tuple) → times tuple_order u (flat_map make ts) ≡ sum_over (λ t. times tuple_order u (make t)) ts
times-made make u [] = let none : times tuple_order u [] ≡ 0 = unfold times in refl in none
times-made make u (t ∷ ts) = times-append tuple_order u (make t) (flat_map make ts) ∙ ap (λ n. times tuple_order u (make t) + n) (times-made make u ts)

pub made-of-bag : (make : Tuple → List Tuple) (ts : List Tuple) → bag_of (flat_map make (bag_of ts)) ≡ bag_of (flat_map make ts)
made-of-bag make ts =
    same-by-times tuple_order-exact (bag_of (flat_map make (bag_of ts))) (bag_of (flat_map make ts))
    (sorted-ascends tuple_order-exact (flat_map make (bag_of ts))) (sorted-ascends tuple_order-exact (flat_map make ts))
    (λ u. sorted-times tuple_order u (flat_map make (bag_of ts)) ∙ times-made make u (bag_of ts)
    ∙ sum-sorted tuple_order (λ t. times tuple_order u (make t)) ts ∙ sym (times-made make u ts) ∙ sym (sorted-times tuple_order u (flat_map make ts)))
