-- Finding a number or a partition that passes, and the ranks of operators.
use Rattle.std.proofs.Common.{◌≡◌, ℕ, zero, suc, ◌+◌, ◌*◌, ◌/◌, ◌%◌, ◌<◌, ◌≤◌, ◌⊎◌, inl, inr, Bool, true, false, cond, not, ◌&&◌, ◌==◌, nat_le, List, [], ◌∷◌, length, refl, sym, ap, subst, ◌∙◌, arith}
use Rattle.std.proofs.Math.Nat.{mul-mod_right, mul-le-mul_left}
use Rattle.std.proofs.lemmas.Bool.{leb-true, leb-false}
use Rattle.std.proofs.lemmas.Nat.{le-div}
use Rattle.apx_history.specs.Plan.{Plan, reads, below, is_checkpoint, last_checkpoint}
use Rattle.apx_history.specs.State.{State, parts, IsPart, all_below, all_parts}
use Rattle.apx_history.specs.Kept.{IsPlan}
use Rattle.apx_history.proofs.Tests.{test, alike, at_or_below, below_at, below_by, is_not, not_true}
use Rattle.apx_history.proofs.Conditions.{equal_at, equal_by}

clash : {b : Bool} → b ≡ true → b ≡ false → ⊥
clash h k = let e : true ≡ false = sym h ∙ k in cc

-- none of the numbers below n passes, or one with the greatest measure does
pub topmost : (p : ℕ → Bool) (f : ℕ → ℕ) (n : ℕ) → ((k : ℕ) → k < n → p k ≡ false) ⊎ ((k : ℕ) × (k < n) × (p k ≡ true) × ((j : ℕ) → j < n → p j ≡ true → f j ≤ f k))
topmost p f zero = inl (λ k h. absurd (omega arith))
topmost p f (suc n) = by (test (p n)) (topmost p f n)
  where
    One : Type 0
    One = (k : ℕ) × (k < suc n) × (p k ≡ true) × ((j : ℕ) → j < suc n → p j ≡ true → f j ≤ f k)

    by : (p n ≡ true) ⊎ (p n ≡ false) → ((k : ℕ) → k < n → p k ≡ false) ⊎ ((k : ℕ) × (k < n) × (p k ≡ true) × ((j : ℕ) → j < n → p j ≡ true → f j ≤ f k)) →
        ((k : ℕ) → k < suc n → p k ≡ false) ⊎ ((k : ℕ) × (k < suc n) × (p k ≡ true) × ((j : ℕ) → j < suc n → p j ≡ true → f j ≤ f k))
    by (inl h) (inl none) = inr (n, omega arith, h, λ j r t. elim (at_or_below j n r) [ inl s ↦ absurd (clash t (none j s)) | inr e ↦ omega (arith, ap f e) ])
    by (inl h) (inr best) = elim (test (nat_le (f n) (f best.0))) [
      | inl le ↦ inr (best.0, omega (arith, best.1), best.2, λ j r t. elim (at_or_below j n r) [ inl s ↦ best.3 j s t | inr e ↦ omega (arith, ap f e, leb-true (f n) (f best.0) le) ])
      | inr gt ↦ inr (n, omega arith, h, λ j r t. elim (at_or_below j n r) [ inl s ↦ omega (arith, best.3 j s t, leb-false (f n) (f best.0) gt) | inr e ↦ omega (arith, ap f e) ])
    ]
    by (inr h) (inl none) = inl (λ k r. elim (at_or_below k n r) [ inl s ↦ none k s | inr e ↦ ap p e ∙ h ])
    by (inr h) (inr best) = inr (best.0, omega (arith, best.1), best.2, λ j r t. elim (at_or_below j n r) [ inl s ↦ best.3 j s t | inr e ↦ absurd (clash (sym (ap p e) ∙ t) h) ])

pub some_below : (p : ℕ → Bool) (n : ℕ) → ((k : ℕ) → k < n → p k ≡ false) ⊎ ((k : ℕ) × (k < n) × (p k ≡ true))
some_below p n = elim (topmost p (λ k. 0) n) [ inl h ↦ inl h | inr h ↦ inr (h.0, h.1, h.2) ]

-- no partition passes, or one of an operator with the greatest measure does
pub some_slot : (m : State) (p : ℕ → ℕ → Bool) (f : ℕ → ℕ) →
    ((o i : ℕ) → IsPart m o i → p o i ≡ false) ⊎ ((o i : ℕ) × IsPart m o i × (p o i ≡ true) × ((r j : ℕ) → IsPart m r j → p r j ≡ true → f r ≤ f o))
some_slot m p f = elim (topmost (λ o. not (all_parts m o (λ i. not (p o i)))) f (length m.ops)) [
  | inl h ↦ inl (λ o i r. is_not (p o i) (below_at (parts m o) (λ i. not (p o i)) (double (all_parts m o (λ i. not (p o i))) (h o r.0)) i r.1))
  | inr h ↦ elim (some_below (p h.0) (parts m h.0)) [
    | inl g ↦ absurd (clash (below_by (parts m h.0) (λ i. not (p h.0 i)) (λ i r. ap not (g i r))) (is_not (all_parts m h.0 (λ i. not (p h.0 i))) h.2))
    | inr g ↦ inr (h.0, g.0, (h.1, g.1), g.2, λ r j t k. h.3 r t.0 (ap not (not_true (all_parts m r (λ i. not (p r i))) (λ a. clash k (is_not (p r j) (below_at (parts m r) (λ i. not (p r i)) a j t.1))))))
  ]
]
  where
    double : (b : Bool) → not b ≡ false → b ≡ true
    double true h = refl
    double false h = cc

-- how many of the numbers below n pass
count_below : ℕ → (ℕ → Bool) → ℕ
count_below zero p = 0
count_below (suc n) p = cond (p n) 1 0 + count_below n p

count_least : (p : ℕ → Bool) (n : ℕ) → count_below n p ≤ n
unfolding count_below
count_least p zero = omega arith
count_least p (suc n) = by (p n) (count_least p n)
  where
    by : (b : Bool) → count_below n p ≤ n → cond b 1 0 + count_below n p ≤ suc n
    by true h = omega arith
    by false h = omega arith

count_le : (p q : ℕ → Bool) (n : ℕ) → ((k : ℕ) → p k ≡ true → q k ≡ true) → count_below n p ≤ count_below n q
unfolding count_below
count_le p q zero h = omega arith
count_le p q (suc n) h = by (p n) (q n) (h n) (count_le p q n h)
  where
    by : (a b : Bool) → (a ≡ true → b ≡ true) → count_below n p ≤ count_below n q → cond a 1 0 + count_below n p ≤ cond b 1 0 + count_below n q
    by true true g r = omega arith
    by true false g r = let e = g refl in cc
    by false true g r = omega arith
    by false false g r = omega arith

count_less : (p q : ℕ → Bool) (n k : ℕ) → k < n → p k ≡ false → q k ≡ true → ((k : ℕ) → p k ≡ true → q k ≡ true) → count_below n p < count_below n q
unfolding count_below
count_less p q zero k r a b h = absurd (omega arith)
count_less p q (suc n) k r a b h = elim (at_or_below k n r) [
  | inl s ↦ later (p n) (q n) (h n) (count_less p q n k s a b h)
  | inr e ↦ here (p n) (q n) (sym (ap p e) ∙ a) (sym (ap q e) ∙ b) (count_le p q n h)
]
  where
    later : (a b : Bool) → (a ≡ true → b ≡ true) → count_below n p < count_below n q → cond a 1 0 + count_below n p < cond b 1 0 + count_below n q
    later true true g r = omega arith
    later true false g r = let e = g refl in cc
    later false true g r = omega arith
    later false false g r = omega arith

    here : (a b : Bool) → a ≡ false → b ≡ true → count_below n p ≤ count_below n q → cond a 1 0 + count_below n p < cond b 1 0 + count_below n q
    here false true e f r = omega arith
    here true b e f r = cc
    here false false e f r = cc

-- an operator's rank: how many operators it is downstream of
pub rank : Plan → ℕ → ℕ
rank plan o = count_below (length plan.operators) (λ s. below plan s o)

pub rank_least : (plan : Plan) (o : ℕ) → rank plan o ≤ length plan.operators
unfolding rank
rank_least plan o = count_least (λ s. below plan s o) (length plan.operators)

pub rank_below : (plan : Plan) → IsPlan plan → (s o : ℕ) → below plan s o ≡ true → rank plan s < rank plan o
unfolding rank
rank_below plan is s o h =
    count_less (λ t. below plan t s) (λ t. below plan t o) (length plan.operators) s (is.under s o h).0 (is.acyclic s) h (λ t g. is.further t s o g h)

-- ---- the last checkpoint

module _ (plan : Plan) (is : IsPlan plan) (n : ℕ) where
  pub last_is : is_checkpoint plan (last_checkpoint plan n) ≡ true
  last_is = equal_by (plan.every * (n / plan.every) % plan.every) 0 (mul-mod_right plan.every (n / plan.every))

  pub last_le : last_checkpoint plan n ≤ n
  last_le = let h = is.every in omega arith

  pub last_near : n < last_checkpoint plan n + plan.every
  last_near = let h = is.every in omega arith

  pub last_most : (w : ℕ) → is_checkpoint plan w ≡ true → w ≤ n → w ≤ last_checkpoint plan n
  last_most w c h =
      let k = is.every in
      let e : w % plan.every ≡ 0 = equal_at (w % plan.every) 0 c in
      let f : plan.every * (w / plan.every) ≡ w = omega arith in
      let g : w / plan.every ≤ n / plan.every = le-div (w / plan.every) n plan.every is.every (let j : w / plan.every * plan.every ≡ w = omega arith in omega arith) in
      let i = mul-le-mul_left plan.every g in
      omega arith
