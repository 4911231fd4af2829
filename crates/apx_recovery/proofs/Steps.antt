-- The steps of loops over windows and over operators.
use Rattle.std.proofs.Common.{◌≡◌, ℕ, zero, suc, ◌+◌, ◌^◌, ◌<◌, ◌≤◌, ◌⊎◌, inl, inr, min, Bool, true, false, cond, ◌&&◌, ◌==◌, nat_lt, List, length, get_or, refl, sym, ap, subst, ◌∙◌, arith}
use Rattle.std.proofs.Math.Nat.{two-pow-succ}
use Rattle.std.proofs.Math.Pow.{pow_mono}
use Rattle.std.proofs.lemmas.Bool.Decides.{nat_tests}
use Rattle.apx_recovery.specs.Checkpoints.{reaches}
use Rattle.apx_recovery.specs.Sets.{set_of}

-- ---- checkpoints

-- the greatest among the first n
pub record IsSoFar (windows downstream : List ℕ) (n w : ℕ) : Type 0 where
  pub saved : (k : ℕ) × (k < length windows) × (get_or windows k 0 ≡ w)
  pub within : reaches downstream w ≡ true
  pub greatest : (k : ℕ) → k < n → reaches downstream (get_or windows k 0) ≡ true → get_or windows k 0 ≤ w

test : (b : Bool) → (b ≡ true) ⊎ (b ≡ false)
test true = inl refl
test false = inr refl

both : (a b : Bool) → (a && b) ≡ true → (a ≡ true) × (b ≡ true)
both true true h = (refl, refl)
both true false h = cc
both false b h = cc

one_off : (a b : Bool) → (a && b) ≡ false → b ≡ true → a ≡ false
one_off true b h t = absurd (let e : true ≡ false = sym t ∙ h in cc)
one_off false b h t = refl

pub alike : (a b : ℕ) → (a ≡ b) ⊎ (a ≡ b → ⊥)
alike a b = elim (test (a == b)) [ inl s ↦ inl (grind (arith, nat_tests)) | inr s ↦ inr (λ e. grind (arith, nat_tests)) ]

pub at_or_below : (k n : ℕ) → k < n + 1 → (k < n) ⊎ (k ≡ n)
at_or_below k n h = elim (test (nat_lt k n)) [ inl s ↦ inl (grind (arith, nat_tests)) | inr s ↦ inr (grind (arith, nat_tests)) ]

which : (a b : ℕ) → (min a b ≡ a) ⊎ (min a b ≡ b)
which a b = elim (test (nat_lt a b)) [ inl s ↦ inl (grind (arith, nat_tests)) | inr s ↦ inr (grind (arith, nat_tests)) ]

pub later_step : (windows downstream : List ℕ) (n g w : ℕ) → n < length windows → get_or windows n 0 ≡ w → IsSoFar windows downstream n g →
    IsSoFar windows downstream (n + 1) (cond (nat_lt g w && reaches downstream w) w g)
later_step windows downstream n g w h e so = by (test (nat_lt g w && reaches downstream w))
  where
    yes : (nat_lt g w ≡ true) × (reaches downstream w ≡ true) → IsSoFar windows downstream (n + 1) w
    yes t =
        let above : g < w = (let a = t.0 in grind (arith, nat_tests)) in
        record {
          saved = (n, h, e);
          within = t.1;
          greatest = λ k r s. elim (at_or_below k n r) [
            | inl b ↦ (let c = so.greatest k b s in omega arith)
            | inr b ↦ (let c : get_or windows k 0 ≡ w = ap (λ (j : ℕ). get_or windows j 0) b ∙ e in omega arith)
          ];
        }

    no : (nat_lt g w && reaches downstream w) ≡ false → IsSoFar windows downstream (n + 1) g
    no f = record {
      saved = so.saved;
      within = so.within;
      greatest = λ k r s. elim (at_or_below k n r) [
        | inl b ↦ so.greatest k b s
        | inr b ↦ (
            let c : get_or windows k 0 ≡ w = ap (λ (j : ℕ). get_or windows j 0) b ∙ e in
            let t : reaches downstream w ≡ true = ap (reaches downstream) (sym c) ∙ s in
            let a : nat_lt g w ≡ false = one_off (nat_lt g w) (reaches downstream w) f t in
            let d : w ≤ g = grind (arith, nat_tests) in
            omega arith)
      ];
    }

    by : ((nat_lt g w && reaches downstream w) ≡ true) ⊎ ((nat_lt g w && reaches downstream w) ≡ false) →
        IsSoFar windows downstream (n + 1) (cond (nat_lt g w && reaches downstream w) w g)
    by (inl t) = subst (λ (x : ℕ). IsSoFar windows downstream (n + 1) x) (sym (ap (λ (b : Bool). cond b w g) t)) (yes (both (nat_lt g w) (reaches downstream w) t))
    by (inr f) = subst (λ (x : ℕ). IsSoFar windows downstream (n + 1) x) (sym (ap (λ (b : Bool). cond b w g) f)) (no f)

-- the least among the first n
pub record IsLeastSoFar (windows : List ℕ) (n w : ℕ) : Type 0 where
  pub one : (k : ℕ) × (k < length windows) × (get_or windows k 0 ≡ w)
  pub least : (k : ℕ) → k < n → w ≤ get_or windows k 0

pub least_step : (windows : List ℕ) (n a w : ℕ) → n < length windows → get_or windows n 0 ≡ w → IsLeastSoFar windows n a →
    IsLeastSoFar windows (n + 1) (min a w)
least_step windows n a w h e so = record {
  one = elim (which a w) [
    | inl s ↦ (so.one.0, so.one.1, so.one.2 ∙ sym s)
    | inr s ↦ (n, h, e ∙ sym s)
  ];
  least = λ k r. elim (at_or_below k n r) [
    | inl b ↦ (let c = so.least k b in omega arith)
    | inr b ↦ (let c : get_or windows k 0 ≡ w = ap (λ (j : ℕ). get_or windows j 0) b ∙ e in omega arith)
  ];
}

-- ---- sets

pub set_none : (p : ℕ → Bool) → 0 ≡ set_of 0 p
unfolding set_of
set_none p = refl

pub set_more : (p : ℕ → Bool) (k s b : ℕ) → s ≡ set_of k p → b ≡ cond (p k) (2 ^ k) 0 → s + b ≡ set_of (k + 1) p
unfolding set_of
set_more p k s b h g =
    let e : suc k ≡ k + 1 = omega arith in
    let a : s + b ≡ cond (p k) (2 ^ k) 0 + set_of k p = omega arith in
    subst (λ (n : ℕ). s + b ≡ set_of n p) e a

bit_most : (t : Bool) (n : ℕ) → cond t (2 ^ n) 0 ≤ 2 ^ n
bit_most true n = omega arith
bit_most false n = omega arith

pub set_below : (p : ℕ → Bool) (n : ℕ) → set_of n p < 2 ^ n
unfolding set_of
set_below p zero = omega arith
set_below p (suc n) = let a = bit_most (p n) n in let b = set_below p n in let c = two-pow-succ n in omega arith

pub set_fits : (p : ℕ → Bool) (k s b : ℕ) → k < 16 → s ≡ set_of k p → b ≡ cond (p k) (2 ^ k) 0 → s + b < 65536
set_fits p k s b h e g =
    let a = bit_most (p k) k in
    let c = set_below p k in
    let d = two-pow-succ k in
    let f : 2 ^ suc k ≤ 2 ^ 16 = pow_mono {i = suc k} {j = 16} (omega arith) in
    omega arith

pub set_same : (p q : ℕ → Bool) (n : ℕ) → ((k : ℕ) → k < n → p k ≡ q k) → set_of n p ≡ set_of n q
unfolding set_of
set_same p q zero h = refl
set_same p q (suc n) h =
    let e = set_same p q n (λ k r. h k (omega arith)) in
    ap (λ (b : Bool). cond b (2 ^ n) 0 + set_of n p) (h n (omega arith)) ∙ ap (λ (m : ℕ). cond (q n) (2 ^ n) 0 + m) e
