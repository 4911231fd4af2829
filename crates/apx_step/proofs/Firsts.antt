-- The first k members in an order, when one member more comes.
use Rattle.std.proofs.Common.{◌≡◌, ℕ, zero, suc, ◌≤◌, Bool, true, false, cond, List, [], ◌∷◌, ◌++◌, length, take, refl, sym, ap, subst, ◌∙◌, arith}
use Rattle.std.specs.declared.cmp.Ordering.{Ordering}
use Rattle.std.specs.Ordering.{is_gt}
use Rattle.std.specs.Cmp.{upto}
use Rattle.std.specs.List.{insert}
use Rattle.apx_order.specs.Sorted.{IsExact, with_member, sorted, times, IsFloor, IsAscending}
use Rattle.apx_order.proofs.Sorting.{times-append, sorted-times, sorted-ascends, same-by-times}
use Rattle.apx_step.specs.Places.{place}

less : {X : Type 0} (k : ℕ) (xs : List X) → take k (take (suc k) xs) ≡ take k xs
less zero xs = refl
less (suc k) [] = refl
less (suc k) (x ∷ xs) = ap (λ l. x ∷ l) (less k xs)

shorter : {X : Type 0} (k : ℕ) (x : X) (xs : List X) → take k (x ∷ take k xs) ≡ take k (x ∷ xs)
shorter zero x xs = refl
shorter (suc k) x xs = ap (λ l. x ∷ l) (less k xs)

take-whole : {X : Type 0} (k : ℕ) (xs : List X) (x : X) → length xs ≡ k → take k (xs ++ x ∷ []) ≡ xs
take-whole zero [] x e = refl
take-whole zero (y ∷ xs) x e = absurd (omega arith)
take-whole (suc k) [] x e = absurd (omega arith)
take-whole (suc k) (y ∷ xs) x e = ap (λ l. y ∷ l) (take-whole k xs x (omega arith))

pub take-few : {X : Type 0} (k : ℕ) (xs : List X) → length (take k xs) ≤ k
take-few zero xs = omega arith
take-few (suc k) [] = omega arith
take-few (suc k) (x ∷ xs) = omega (arith, take-few k xs)

module _ {X : Type 0} (cmp : X → X → Ordering) where
  pub place-fits : (x : X) (ys : List X) → place cmp x ys ≤ length ys
  place-fits x [] = omega arith
  place-fits x (y ∷ ys) = by (is_gt (cmp x y)) (place-fits x ys)
    where
      by : (b : Bool) → place cmp x ys ≤ length ys → cond b (suc (place cmp x ys)) 0 ≤ length (y ∷ ys)
      by true h = omega (arith, h)
      by false h = omega arith

  pub placed : (x : X) (ys : List X) → insert ys (place cmp x ys) x ≡ with_member cmp x ys
  unfolding with_member
  placed x [] = refl
  placed x (y ∷ ys) = by (is_gt (cmp x y)) (placed x ys)
    where
      by : (b : Bool) → insert ys (place cmp x ys) x ≡ with_member cmp x ys → insert (y ∷ ys) (cond b (suc (place cmp x ys)) 0) x ≡ cond b (y ∷ with_member cmp x ys) (x ∷ y ∷ ys)
      by true rest = ap (λ l. y ∷ l) rest
      by false rest = refl

  -- a member that isn't among the first k changes nothing of them
  take-member : (k : ℕ) (x : X) (ys : List X) → take k (with_member cmp x (take k ys)) ≡ take k (with_member cmp x ys)
  unfolding with_member
  take-member zero x ys = refl
  take-member (suc k) x [] = refl
  take-member (suc k) x (y ∷ ys) = by (is_gt (cmp x y)) (take-member k x ys)
    where
      by : (b : Bool) → take k (with_member cmp x (take k ys)) ≡ take k (with_member cmp x ys) →
          take (suc k) (cond b (y ∷ with_member cmp x (take k ys)) (x ∷ y ∷ take k ys)) ≡ take (suc k) (cond b (y ∷ with_member cmp x ys) (x ∷ y ∷ ys))
      by true rest = ap (λ l. y ∷ l) rest
      by false rest = ap (λ l. x ∷ l) (shorter k y ys)

module _ {X : Type 0} {cmp : X → X → Ordering} (o : IsExact cmp) where
  sorted-last : (x : X) (xs : List X) → sorted cmp (xs ++ x ∷ []) ≡ with_member cmp x (sorted cmp xs)
  unfolding sorted
  sorted-last x xs =
      same-by-times o (sorted cmp (xs ++ x ∷ [])) (sorted cmp (x ∷ xs)) (sorted-ascends o (xs ++ x ∷ [])) (sorted-ascends o (x ∷ xs))
      (λ y. sorted-times cmp y (xs ++ x ∷ []) ∙ swapped y ∙ sym (sorted-times cmp y (x ∷ xs)))
    where
      swapped : (y : X) → times cmp y (xs ++ x ∷ []) ≡ times cmp y (x ∷ xs)
      swapped y = omega (arith, times-append cmp y xs (x ∷ []), times-append cmp y (x ∷ []) xs)

  -- one member more
  pub firsts-more : (k : ℕ) (x : X) (xs : List X) → take k (with_member cmp x (take k (sorted cmp xs))) ≡ take k (sorted cmp (xs ++ x ∷ []))
  firsts-more k x xs = take-member cmp k x (sorted cmp xs) ∙ ap (take k) (sym (sorted-last x xs))

  take-floor : (x : X) (k : ℕ) (ys : List X) → IsFloor cmp x ys → IsFloor cmp x (take k ys)
  take-floor x zero ys f = tt
  take-floor x (suc k) [] f = tt
  take-floor x (suc k) (y ∷ ys) f = (f.0, take-floor x k ys f.1)

  take-ascends : (k : ℕ) (ys : List X) → IsAscending cmp ys → IsAscending cmp (take k ys)
  take-ascends zero ys a = tt
  take-ascends (suc k) [] a = tt
  take-ascends (suc k) (y ∷ ys) a = (take-floor y k ys a.0, take-ascends k ys a.1)

  pub firsts-ascend : (k : ℕ) (xs : List X) → IsAscending cmp (take k (sorted cmp xs))
  firsts-ascend k xs = take-ascends k (sorted cmp xs) (sorted-ascends o xs)

  -- x is above all that isn't above a member that x is above
  above : (x y z : X) → is_gt (cmp x z) ≡ true → is_gt (cmp y z) ≡ false → is_gt (cmp x y) ≡ true
  above x y z g h = by (is_gt (cmp x y)) refl
    where
      by : (b : Bool) → is_gt (cmp x y) ≡ b → b ≡ true
      by true e = refl
      by false e = let no : is_gt (cmp x z) ≡ false = upto o.total x y z e h in cc

  -- where x is above the last, it is above all
  behind : (x : X) (ys : List X) (z : X) → IsAscending cmp (ys ++ z ∷ []) → is_gt (cmp x z) ≡ true → with_member cmp x (ys ++ z ∷ []) ≡ (ys ++ z ∷ []) ++ x ∷ []
  unfolding with_member
  behind x [] z a g = ap (λ b. cond b (z ∷ x ∷ []) (x ∷ z ∷ [])) g
  behind x (y ∷ ys) z a g =
      ap (λ b. cond b (y ∷ with_member cmp x (ys ++ z ∷ [])) (x ∷ y ∷ (ys ++ z ∷ []))) (above x y z g (last-floor y ys z a.0))
      ∙ ap (λ l. y ∷ l) (behind x ys z a.1 g)
    where
      last-floor : (y : X) (ys : List X) (z : X) → IsFloor cmp y (ys ++ z ∷ []) → is_gt (cmp y z) ≡ false
      last-floor y [] z f = f.0
      last-floor y (w ∷ ys) z f = last-floor y ys z f.1

  -- so it isn't among the first k, where there are k already
  pub behind-all : (k : ℕ) (x z : X) (ys zs : List X) → zs ≡ ys ++ z ∷ [] → IsAscending cmp zs → length zs ≡ k → is_gt (cmp x z) ≡ true → take k (with_member cmp x zs) ≡ zs
  behind-all k x z ys zs e a n g =
      ap (λ l. take k (with_member cmp x l)) e ∙ ap (take k) (behind x ys z (subst (IsAscending cmp) e a) g)
      ∙ take-whole k (ys ++ z ∷ []) x (ap length (sym e) ∙ n) ∙ sym e
