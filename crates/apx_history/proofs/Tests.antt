-- What the tests of the table tell: of numbers below n, of the least and the greatest, of lists of windows.
use Rattle.std.proofs.Common.{◌≡◌, ℕ, zero, suc, ◌+◌, ◌<◌, ◌≤◌, ◌⊎◌, inl, inr, max, min, Bool, true, false, cond, not, ◌&&◌, ◌||◌, ◌==◌, nat_le, List, [], ◌∷◌, ◌++◌, length, refl, sym, ap, subst, ◌∙◌, arith}
use Rattle.std.specs.List.{filter}
use Rattle.std.specs.Bool.{Decides}
use Rattle.std.proofs.lemmas.Bool.{leb-true, leb-false}
use Rattle.std.proofs.lemmas.Bool.Decides.{nat_tests, Decides-below_and}
use Rattle.apx_history.specs.Plan.{has}
use Rattle.apx_history.specs.State.{Slot, State, slot, parts, IsPart, all_below, all_parts, all_slots, lowest, lowest_slot}
use Rattle.apx_history.specs.Enabled.{greatest}
use Rattle.apx_history.specs.Kept.{IsAscending}

-- ---- tests

pub both : (a b : Bool) → (a && b) ≡ true → (a ≡ true) × (b ≡ true)
both true true h = (refl, refl)
both true false h = cc
both false b h = cc

-- what may be supposed of the second test
pub either : (a b : Bool) → (a ≡ true → b ≡ true) → (not a || b) ≡ true
either true b h = h refl
either false b h = refl

pub either_at : (a b : Bool) → (not a || b) ≡ true → a ≡ true → b ≡ true
either_at true b h t = h
either_at false b h t = cc

-- a test is true or false
pub test : (b : Bool) → (b ≡ true) ⊎ (b ≡ false)
test true = inl refl
test false = inr refl

pub not_true : (b : Bool) → (b ≡ true → ⊥) → b ≡ false
not_true true h = absurd (h refl)
not_true false h = refl

pub is_not : (b : Bool) → not b ≡ true → b ≡ false
is_not true h = cc
is_not false h = refl

-- ---- each number below n

pub below_decides : (n : ℕ) (p : ℕ → Bool) → Decides (all_below n p) ((k : ℕ) → k < n → p k ≡ true)
unfolding all_below
below_decides n p = Decides-below_and p (λ k. p k ≡ true) (λ n. all_below n p) (λ k. (λ h. h, λ h. h)) refl (λ _. refl) n

pub below_at : (n : ℕ) (p : ℕ → Bool) → all_below n p ≡ true → (k : ℕ) → k < n → p k ≡ true
below_at n p = (below_decides n p).0

pub below_by : (n : ℕ) (p : ℕ → Bool) → ((k : ℕ) → k < n → p k ≡ true) → all_below n p ≡ true
below_by n p = (below_decides n p).1

module _ (m : State) (p : ℕ → ℕ → Bool) where
  pub slots_at : all_slots m p ≡ true → (o i : ℕ) → IsPart m o i → p o i ≡ true
  slots_at h o i r = below_at (parts m o) (p o) (below_at (length m.ops) (λ o. all_parts m o (p o)) h o r.0) i r.1

  pub slots_by : ((o i : ℕ) → IsPart m o i → p o i ≡ true) → all_slots m p ≡ true
  slots_by h = below_by (length m.ops) (λ o. all_parts m o (p o)) (λ o r. below_by (parts m o) (p o) (λ i s. h o i (r, s)))

-- ---- the least

pub alike : (a b : ℕ) → (a ≡ b) ⊎ (a ≡ b → ⊥)
alike a b = elim (test (a == b)) [ inl s ↦ inl (grind (arith, nat_tests)) | inr s ↦ inr (λ e. grind (arith, nat_tests)) ]

pub at_or_below : (k n : ℕ) → k < suc n → (k < n) ⊎ (k ≡ n)
at_or_below k n h = elim (alike k n) [ inl e ↦ inr e | inr e ↦ inl (omega arith) ]

pub which_min : (a b : ℕ) → (min a b ≡ a) ⊎ (min a b ≡ b)
which_min a b = elim (test (nat_le a b)) [
  | inl s ↦ inl (let h = leb-true a b s in omega arith)
  | inr s ↦ inr (let h = leb-false a b s in omega arith)
]

pub which_max : (a b : ℕ) → (max a b ≡ a) ⊎ (max a b ≡ b)
which_max a b = elim (test (nat_le a b)) [
  | inl s ↦ inr (let h = leb-true a b s in omega arith)
  | inr s ↦ inl (let h = leb-false a b s in omega arith)
]

module _ (f : ℕ → ℕ) (d : ℕ) where
  pub lowest-start : (n : ℕ) → lowest n f d ≤ d
  unfolding lowest
  lowest-start zero = omega arith
  lowest-start (suc n) = let h = lowest-start n in omega arith

  pub lowest-le : (n k : ℕ) → k < n → lowest n f d ≤ f k
  unfolding lowest
  lowest-le zero k h = omega arith
  lowest-le (suc n) k h = by (f n) refl (lowest-le n k)
    where
      by : (x : ℕ) → x ≡ f n → (k < n → lowest n f d ≤ f k) → min x (lowest n f d) ≤ f k
      by x e rest = elim (at_or_below k n h) [ inl s ↦ omega (arith, rest s) | inr s ↦ omega (arith, ap f s) ]

  -- it is the default, or one of them
  pub lowest-is : (n : ℕ) → (lowest n f d ≡ d) ⊎ ((k : ℕ) × (k < n) × (lowest n f d ≡ f k))
  unfolding lowest
  lowest-is zero = inl refl
  lowest-is (suc n) = elim (which_min (f n) (lowest n f d)) [
    | inl e ↦ inr (n, omega arith, e)
    | inr e ↦ elim (lowest-is n) [ inl s ↦ inl (e ∙ s) | inr s ↦ inr (s.0, omega (arith, s.1), e ∙ s.2) ]
  ]

  pub lowest-by : (n c : ℕ) → c ≤ d → ((k : ℕ) → k < n → c ≤ f k) → c ≤ lowest n f d
  unfolding lowest
  lowest-by zero c s h = s
  lowest-by (suc n) c s h = let a = lowest-by n c s (λ k r. h k (omega arith)) in let b = h n (omega arith) in omega arith

module _ (m : State) (f : ℕ → ℕ → ℕ) (d : ℕ) where
  pub least-start : lowest_slot m f d ≤ d
  least-start = lowest-start (λ o. lowest (parts m o) (f o) d) d (length m.ops)

  pub least-le : (o i : ℕ) → IsPart m o i → lowest_slot m f d ≤ f o i
  least-le o i r =
      let a = lowest-le (λ o. lowest (parts m o) (f o) d) d (length m.ops) o r.0 in
      let b = lowest-le (f o) d (parts m o) i r.1 in
      omega arith

  pub least-is : (lowest_slot m f d ≡ d) ⊎ ((o i : ℕ) × IsPart m o i × (lowest_slot m f d ≡ f o i))
  least-is = elim (lowest-is (λ o. lowest (parts m o) (f o) d) d (length m.ops)) [
    | inl e ↦ inl e
    | inr s ↦ elim (lowest-is (f s.0) d (parts m s.0)) [ inl e ↦ inl (s.2 ∙ e) | inr t ↦ inr (s.0, t.0, (s.1, t.1), s.2 ∙ t.2) ]
  ]

  pub least-by : (c : ℕ) → c ≤ d → ((o i : ℕ) → IsPart m o i → c ≤ f o i) → c ≤ lowest_slot m f d
  least-by c s h = lowest-by (λ o. lowest (parts m o) (f o) d) d (length m.ops) c s (λ o r. lowest-by (f o) d (parts m o) c s (λ i t. h o i (r, t)))

-- ---- lists of windows

both-false : (a b : Bool) → b ≡ false → (a && b) ≡ false
both-false true b h = h
both-false false b h = refl

pub or_right : (a b : Bool) → b ≡ true → (a || b) ≡ true
or_right true b h = refl
or_right false b h = h

pub one_of : (a b : Bool) → (a || b) ≡ true → (a ≡ true) ⊎ (b ≡ true)
one_of true b h = inl refl
one_of false b h = inr h

or_false : (a b : Bool) → (a || (b || false)) ≡ true → (a ≡ true) ⊎ (b ≡ true)
or_false true b h = inl refl
or_false false true h = inr refl
or_false false false h = cc

pub has-append : (xs ys : List ℕ) (w : ℕ) → has (xs ++ ys) w ≡ (has xs w || has ys w)
unfolding has
has-append [] ys w = refl
has-append (x ∷ xs) ys w = by (x == w) (has-append xs ys w)
  where
    by : (b : Bool) → has (xs ++ ys) w ≡ (has xs w || has ys w) → (b || has (xs ++ ys) w) ≡ (b || has xs w || has ys w)
    by true h = refl
    by false h = h

pub has-filter : (p : ℕ → Bool) (xs : List ℕ) (w : ℕ) → has (filter p xs) w ≡ (has xs w && p w)
unfolding has
has-filter p [] w = refl
has-filter p (x ∷ xs) w = by (p x) refl (test (x == w)) (has-filter p xs w)
  where
    by : (b : Bool) → b ≡ p x → (x == w ≡ true) ⊎ (x == w ≡ false) → has (filter p xs) w ≡ (has xs w && p w) → has (cond b (x ∷ filter p xs) (filter p xs)) w ≡ ((x == w || has xs w) && p w)
    by true e (inl s) h = let f : p x ≡ p w = ap p (grind (arith, nat_tests)) in rw s (e ∙ f)
    by true e (inr s) h = rw s h
    by false e (inl s) h = let f : p x ≡ p w = ap p (grind (arith, nat_tests)) in rw s (h ∙ both-false (has xs w) (p w) (sym (e ∙ f)) ∙ e ∙ f)
    by false e (inr s) h = rw s h

pub ascending-append : (xs : List ℕ) (y : ℕ) → IsAscending xs → ((w : ℕ) → has xs w ≡ true → w < y) → IsAscending (xs ++ y ∷ [])
unfolding has
ascending-append [] y a h = ((λ w r. cc), tt)
ascending-append (x ∷ xs) y a h = (above, ascending-append xs y a.1 (λ w r. h w (or_right (x == w) (has xs w) r)))
  where
    above : (w : ℕ) → has (xs ++ y ∷ []) w ≡ true → x < w
    above w r = elim (or_false (has xs w) (y == w) (sym (has-append xs (y ∷ []) w) ∙ r)) [
      | inl s ↦ a.0 w s
      | inr s ↦ let e : y ≡ w = grind (arith, nat_tests) in let f = h x (grind (arith, nat_tests)) in omega arith
    ]

pub ascending-filter : (p : ℕ → Bool) (xs : List ℕ) → IsAscending xs → IsAscending (filter p xs)
ascending-filter p [] a = tt
ascending-filter p (x ∷ xs) a = by (p x) (ascending-filter p xs a.1)
  where
    by : (b : Bool) → IsAscending (filter p xs) → IsAscending (cond b (x ∷ filter p xs) (filter p xs))
    by true h = ((λ w r. a.0 w (both (has xs w) (p w) (sym (has-filter p xs w) ∙ r)).0), h)
    by false h = h

-- ---- the greatest that passes

module _ (p : ℕ → Bool) where
  pub greatest-is : (xs : List ℕ) → (greatest p xs ≡ 0) ⊎ ((has xs (greatest p xs) ≡ true) × (p (greatest p xs) ≡ true))
  unfolding greatest has
  greatest-is [] = inl refl
  greatest-is (x ∷ xs) = by (p x) refl (greatest-is xs) (which_max x (greatest p xs))
    where
      by : (b : Bool) → b ≡ p x → (greatest p xs ≡ 0) ⊎ ((has xs (greatest p xs) ≡ true) × (p (greatest p xs) ≡ true)) →
          (max x (greatest p xs) ≡ x) ⊎ (max x (greatest p xs) ≡ greatest p xs) →
          (cond b (max x (greatest p xs)) (greatest p xs) ≡ 0) ⊎
          (((x == cond b (max x (greatest p xs)) (greatest p xs) || has xs (cond b (max x (greatest p xs)) (greatest p xs))) ≡ true) × (p (cond b (max x (greatest p xs)) (greatest p xs)) ≡ true))
      by true e r (inl s) = inr (subst (λ (k : ℕ). (x == k || has xs k) ≡ true) (sym s) (grind (arith, nat_tests)), ap p s ∙ sym e)
      by true e (inl r) (inr s) = inl (s ∙ r)
      by true e (inr r) (inr s) = inr (subst (λ (k : ℕ). (x == k || has xs k) ≡ true) (sym s) (or_right (x == greatest p xs) (has xs (greatest p xs)) r.0), ap p s ∙ r.1)
      by false e (inl r) s = inl r
      by false e (inr r) s = inr (or_right (x == greatest p xs) (has xs (greatest p xs)) r.0, r.1)

  pub greatest-above : (xs : List ℕ) (w : ℕ) → has xs w ≡ true → p w ≡ true → w ≤ greatest p xs
  unfolding greatest has
  greatest-above [] w h t = cc
  greatest-above (x ∷ xs) w h t = by (p x) refl (test (x == w)) (greatest-above xs w)
    where
      by : (b : Bool) → b ≡ p x → (x == w ≡ true) ⊎ (x == w ≡ false) → (has xs w ≡ true → p w ≡ true → w ≤ greatest p xs) → w ≤ cond b (max x (greatest p xs)) (greatest p xs)
      by true e (inl s) rest = let f : x ≡ w = grind (arith, nat_tests) in omega arith
      by true e (inr s) rest = let f : w ≤ greatest p xs = rest (rw s at h) t in omega arith
      by false e (inl s) rest = let f : x ≡ w = grind (arith, nat_tests) in let g : false ≡ true = e ∙ ap p f ∙ t in cc
      by false e (inr s) rest = rest (rw s at h) t
