-- A plan that meets what a plan must, and a start of it: the laws speak of something.
use Rattle.std.proofs.Common.{◌≡◌, ℕ, zero, suc, ◌<◌, ◌≤◌, ◌⊎◌, inl, inr, Bool, true, false, cond, ◌||◌, ◌==◌, List, [], ◌∷◌, length, refl, sym, ap, subst, ◌∙◌, arith}
use Rattle.apx_history.specs.Plan.{Operator, Plan, has, operator, reads, below}
use Rattle.apx_history.specs.Kept.{IsPlan, IsStart}
use Rattle.apx_history.specs.Laws.{IsHistory}
use Rattle.apx_history.proofs.Tests.{one_of}
use Rattle.apx_history.proofs.Conditions.{equal_at}

-- a chain of three operators, of which the middle one has two partitions: four windows, and a checkpoint after each second
abbrev pub small : Plan
small = record {
  windows = 4;
  every = 2;
  sink = 2;
  operators = record { sources = []; under = 1 ∷ 2 ∷ []; first = 1 } ∷ record { sources = 0 ∷ []; under = 2 ∷ []; first = 2 } ∷ record { sources = 1 ∷ []; under = []; first = 1 } ∷ [];
  lines = [];
}

one : (x w : ℕ) → has (x ∷ []) w ≡ true → w ≡ x
unfolding has
one x w h = elim (one_of (x == w) false h) [ inl s ↦ sym (equal_at x w s) | inr s ↦ absurd (let e : false ≡ true = s in cc) ]

two : (x y w : ℕ) → has (x ∷ y ∷ []) w ≡ true → (w ≡ x) ⊎ (w ≡ y)
unfolding has
two x y w h = elim (one_of (x == w) (y == w || false) h) [
  | inl s ↦ inl (sym (equal_at x w s))
  | inr s ↦ inr (elim (one_of (y == w) false s) [ inl t ↦ sym (equal_at y w t) | inr t ↦ absurd (let e : false ≡ true = t in cc) ])
]

-- who reads whom, and who is downstream of whom
reads_small : (P : ℕ → ℕ → Type 0) → P 1 0 → P 2 1 → (o s : ℕ) → reads small o s ≡ true → P o s
unfolding has
reads_small P a b zero s h = absurd (let e : false ≡ true = h in cc)
reads_small P a b (suc zero) s h = subst (λ (k : ℕ). P 1 k) (sym (one 0 s h)) a
reads_small P a b (suc (suc zero)) s h = subst (λ (k : ℕ). P 2 k) (sym (one 1 s h)) b
reads_small P a b (suc (suc (suc o))) s h = absurd (let e : false ≡ true = h in cc)

below_small : (P : ℕ → ℕ → Type 0) → P 0 1 → P 0 2 → P 1 2 → (s o : ℕ) → below small s o ≡ true → P s o
unfolding has
below_small P a b c zero o h = elim (two 1 2 o h) [ inl e ↦ subst (λ (k : ℕ). P 0 k) (sym e) a | inr e ↦ subst (λ (k : ℕ). P 0 k) (sym e) b ]
below_small P a b c (suc zero) o h = subst (λ (k : ℕ). P 1 k) (sym (one 2 o h)) c
below_small P a b c (suc (suc zero)) o h = absurd (let e : false ≡ true = h in cc)
below_small P a b c (suc (suc (suc s))) o h = absurd (let e : false ≡ true = h in cc)

some_small : (o : ℕ) → o < 3 → 0 < (operator small o).first
some_small zero h = omega arith
some_small (suc zero) h = omega arith
some_small (suc (suc zero)) h = omega arith
some_small (suc (suc (suc o))) h = absurd (omega arith)

acyclic_small : (o : ℕ) → below small o o ≡ false
unfolding has
acyclic_small zero = refl
acyclic_small (suc zero) = refl
acyclic_small (suc (suc zero)) = refl
acyclic_small (suc (suc (suc o))) = refl

pub small_is : IsPlan small
unfolding has
small_is = record {
  every = omega arith;
  sink = omega arith;
  single = refl;
  some = some_small;
  there = reads_small (λ o s. (o < 3) × (s < 3)) (omega arith, omega arith) (omega arith, omega arith);
  under = below_small (λ s o. (s < 3) × (o < 3)) (omega arith, omega arith) (omega arith, omega arith) (omega arith, omega arith);
  direct = reads_small (λ o s. below small s o ≡ true) refl refl;
  further = λ s t o h k. below_small (λ s t. below small t o ≡ true → below small s o ≡ true)
      (λ g. below_small (λ t o. t ≡ 1 → below small 0 o ≡ true) (λ e. refl) (λ e. refl) (λ e. refl) 1 o g refl)
      (λ g. absurd (let e : false ≡ true = g in cc))
      (λ g. absurd (let e : false ≡ true = g in cc)) s t h k;
  only = below_small (λ s o. (reads small o s ≡ true) ⊎ ((t : ℕ) × (reads small t s ≡ true) × (below small t o ≡ true))) (inl refl) (inr (1, refl, refl)) (inl refl);
  acyclic = acyclic_small;
  op = λ l h. absurd (omega arith);
  window = λ l h. absurd (omega arith);
  act = λ l h. absurd (omega arith);
  once = λ o k l h. absurd (omega arith);
}

-- a run of it may begin behind window 2, where three windows are stored
pub small_starts : IsStart small 3 2
small_starts = record { stored = omega arith; behind = omega arith; checkpoint = refl; script = inr refl }

pub small_history : IsHistory small 3 2 []
small_history = record { is = small_is; start = small_starts; legal = refl }
