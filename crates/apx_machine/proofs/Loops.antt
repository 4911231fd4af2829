-- The steps of loops over numbers below n.
use Rattle.std.proofs.Common.{◌≡◌, ℕ, zero, suc, ◌+◌, ◌<◌, inl, inr, min, Bool, true, false, ◌&&◌, refl, sym, ap, subst, ◌∙◌, arith}
use Rattle.apx_history.specs.State.{all_below, lowest}
use Rattle.apx_history.proofs.Tests.{at_or_below}

pub all_none : (p : ℕ → Bool) → all_below 0 p ≡ true
unfolding all_below
all_none p = refl

pub all_more : (p : ℕ → Bool) (k : ℕ) → all_below k p ≡ true → p k ≡ true → all_below (k + 1) p ≡ true
unfolding all_below
all_more p k h t =
    let e : suc k ≡ k + 1 = omega arith in
    subst (λ (n : ℕ). all_below n p ≡ true) e (ap (λ (b : Bool). b && all_below k p) t ∙ h)

pub all_fails : (p : ℕ → Bool) (n k : ℕ) → k < n → p k ≡ false → false ≡ all_below n p
unfolding all_below
all_fails p zero k r h = absurd (omega arith)
all_fails p (suc n) k r h = elim (at_or_below k n r) [
  | inl s ↦ by (p n) (all_fails p n k s h)
  | inr e ↦ ap (λ (b : Bool). b && all_below n p) (sym (sym (ap p e) ∙ h))
]
  where
    by : (b : Bool) → false ≡ all_below n p → false ≡ (b && all_below n p)
    by true g = g
    by false g = refl

pub lowest_none : (f : ℕ → ℕ) (d : ℕ) → d ≡ lowest 0 f d
unfolding lowest
lowest_none f d = refl

pub lowest_more : (f : ℕ → ℕ) (d k x y : ℕ) → x ≡ lowest k f d → y ≡ min (f k) x → y ≡ lowest (k + 1) f d
unfolding lowest
lowest_more f d k x y h e =
    let g : suc k ≡ k + 1 = omega arith in
    subst (λ (n : ℕ). y ≡ lowest n f d) g (e ∙ ap (λ (z : ℕ). min (f k) z) h)

pub lowest_same : (n : ℕ) (f : ℕ → ℕ) (d : ℕ) → ((k : ℕ) → f k ≡ d) → d ≡ lowest n f d
unfolding lowest
lowest_same zero f d h = refl
lowest_same (suc n) f d h = let a = lowest_same n f d h in let b = h n in omega arith
