-- Sums over the partitions of an operator, and how often something stands in all of them together.
use Rattle.std.proofs.Common.{◌≡◌, ℕ, ◌+◌, ◌≤◌, ◌<◌, ◌==◌, zero, suc, Bool, true, false, cond, List, [], ◌∷◌, ◌++◌, map, refl, sym, ap, ◌∙◌, arith}
use Rattle.std.specs.declared.cmp.Ordering.{Ordering}
use Rattle.std.specs.Ordering.{is_eq, is_gt}
use Rattle.std.specs.List.{filter, flat_map, range_with_len}
use Rattle.std.proofs.lemmas.Bool.Decides.{nat_tests}
use Rattle.apx_order.specs.Sorted.{times, sorted, with_member}
use Rattle.apx_order.proofs.Sorting.{times-append}
use Rattle.apx_rules.specs.Parts.{of_parts}
use Rattle.apx_shares.specs.Laws.{IsOwner}

-- g of each of n numbers from a on, added up
unfoldable pub sum_from : ℕ → ℕ → (ℕ → ℕ) → ℕ
sum_from a zero g = 0
sum_from a (suc n) g = g a + sum_from (a + 1) n g

pub sum_from-add : (a n : ℕ) (g h : ℕ → ℕ) → sum_from a n (λ i. g i + h i) ≡ sum_from a n g + sum_from a n h
unfolding sum_from
sum_from-add a zero g h = refl
sum_from-add a (suc n) g h = omega (arith, sum_from-add (a + 1) n g h)

pub sum_from-zero : (a n : ℕ) → sum_from a n (λ i. 0) ≡ 0
unfolding sum_from
sum_from-zero a zero = refl
sum_from-zero a (suc n) = omega (arith, sum_from-zero (a + 1) n)

-- one number alone adds something
sum_from-past : (a n o c : ℕ) → o < a → sum_from a n (λ i. cond (o == i) c 0) ≡ 0
unfolding sum_from
sum_from-past a zero o c h = refl
sum_from-past a (suc n) o c h = by (o == a) refl (sum_from-past (a + 1) n o c (omega arith))
  where
    by : (b : Bool) → (o == a) ≡ b → sum_from (a + 1) n (λ i. cond (o == i) c 0) ≡ 0 → cond b c 0 + sum_from (a + 1) n (λ i. cond (o == i) c 0) ≡ 0
    by true e rest = absurd (grind (arith, nat_tests))
    by false e rest = omega (arith, rest)

pub sum_from-one : (a n o c : ℕ) → a ≤ o → o < a + n → sum_from a n (λ i. cond (o == i) c 0) ≡ c
unfolding sum_from
sum_from-one a zero o c l h = absurd (omega arith)
sum_from-one a (suc n) o c l h = by (o == a) refl (sum_from-one (a + 1) n o c)
  where
    by : (b : Bool) → (o == a) ≡ b → (a + 1 ≤ o → o < a + 1 + n → sum_from (a + 1) n (λ i. cond (o == i) c 0) ≡ c) → cond b c 0 + sum_from (a + 1) n (λ i. cond (o == i) c 0) ≡ c
    by true e more = let past : o < a + 1 = grind (arith, nat_tests) in omega (arith, sum_from-past (a + 1) n o c past)
    by false e more = let above : a + 1 ≤ o = grind (arith, nat_tests) in omega (arith, more above (omega arith))

-- how often something stands in all parts together
times-from : {X : Type 0} (cmp : X → X → Ordering) (x : X) (a n : ℕ) (f : ℕ → List X) → times cmp x (flat_map (λ part. part) (map f (range_with_len a n))) ≡ sum_from a n (λ i. times cmp x (f i))
unfolding sum_from times
times-from cmp x a zero f = refl
times-from cmp x a (suc n) f = times-append cmp x (f a) (flat_map (λ part. part) (map f (range_with_len (a + 1) n))) ∙ ap (λ m. times cmp x (f a) + m) (times-from cmp x (a + 1) n f)

pub times-parts : {X : Type 0} (cmp : X → X → Ordering) (x : X) (n : ℕ) (f : ℕ → List X) → times cmp x (flat_map (λ part. part) (of_parts n f)) ≡ sum_from 0 n (λ i. times cmp x (f i))
times-parts cmp x n f = times-from cmp x 0 n f

-- ---- counting by a test

abbrev pub count : {X : Type 0} → (X → Bool) → List X → ℕ
count p [] = 0
count p (x ∷ xs) = cond (p x) 1 0 + count p xs

module _ {X : Type 0} where
  pub times-count : (cmp : X → X → Ordering) (x : X) (xs : List X) → times cmp x xs ≡ count (λ y. is_eq (cmp x y)) xs
  unfolding times
  times-count cmp x [] = refl
  times-count cmp x (y ∷ ys) = ap (λ n. cond (is_eq (cmp x y)) 1 0 + n) (times-count cmp x ys)

  pub count-append : (p : X → Bool) (xs ys : List X) → count p (xs ++ ys) ≡ count p xs + count p ys
  count-append p [] ys = omega arith
  count-append p (x ∷ xs) ys = omega (arith, count-append p xs ys)

  pub count-with_member : (cmp : X → X → Ordering) (p : X → Bool) (x : X) (xs : List X) → count p (with_member cmp x xs) ≡ count p (x ∷ xs)
  unfolding with_member
  count-with_member cmp p x [] = refl
  count-with_member cmp p x (y ∷ ys) = by (is_gt (cmp x y)) (count-with_member cmp p x ys)
    where
      by : (b : Bool) → count p (with_member cmp x ys) ≡ count p (x ∷ ys) → count p (cond b (y ∷ with_member cmp x ys) (x ∷ y ∷ ys)) ≡ count p (x ∷ y ∷ ys)
      by true rest = omega (arith, rest)
      by false rest = refl

  -- sorting by any order keeps each count
  pub count-sorted : (cmp : X → X → Ordering) (p : X → Bool) (xs : List X) → count p (sorted cmp xs) ≡ count p xs
  unfolding sorted
  count-sorted cmp p [] = refl
  count-sorted cmp p (x ∷ xs) = omega (arith, count-with_member cmp p x (sorted cmp xs), count-sorted cmp p xs)

  count-from : (p : X → Bool) (a n : ℕ) (f : ℕ → List X) → count p (flat_map (λ part. part) (map f (range_with_len a n))) ≡ sum_from a n (λ i. count p (f i))
  unfolding sum_from
  count-from p a zero f = refl
  count-from p a (suc n) f = count-append p (f a) (flat_map (λ part. part) (map f (range_with_len (a + 1) n))) ∙ ap (λ m. count p (f a) + m) (count-from p (a + 1) n f)

  -- all cuts together have each member as often as the whole
  count-cuts : (n : ℕ) (own : List ℕ → ℕ) → IsOwner n own → (key : X → List ℕ) (p : X → Bool) (xs : List X) → sum_from 0 n (λ i. count p (filter (λ x. own (key x) == i) xs)) ≡ count p xs
  count-cuts n own o key p [] = sum_from-zero 0 n
  count-cuts n own o key p (x ∷ xs) =
      (λ j. sum_from 0 n (λ i. one i (own (key x) == i) j))
      ∙ sum_from-add 0 n (λ i. cond (own (key x) == i) (cond (p x) 1 0) 0) (λ i. count p (filter (λ y. own (key y) == i) xs))
      ∙ (let here = sum_from-one 0 n (own (key x)) (cond (p x) 1 0) (omega arith) (let b = o (key x) in omega (arith, b)) in let rest = count-cuts n own o key p xs in omega (arith, here, rest))
    where
      one : (i : ℕ) (b : Bool) → count p (cond b (x ∷ filter (λ y. own (key y) == i) xs) (filter (λ y. own (key y) == i) xs)) ≡ cond b (cond (p x) 1 0) 0 + count p (filter (λ y. own (key y) == i) xs)
      one i true = refl
      one i false = omega arith

  pub count-all-cuts : (n : ℕ) (own : List ℕ → ℕ) → IsOwner n own → (key : X → List ℕ) (p : X → Bool) (xs : List X) → count p (flat_map (λ part. part) (of_parts n (λ i. filter (λ x. own (key x) == i) xs))) ≡ count p xs
  count-all-cuts n own o key p xs = count-from p 0 n (λ i. filter (λ x. own (key x) == i) xs) ∙ count-cuts n own o key p xs
