-- Where each operator that isn't placed has a source that isn't, one of them is reached from itself.
use Rattle.std.proofs.Common.{◌≡◌, ◌≢◌, ℕ, zero, suc, ◌-◌, ◌<◌, Bool, false, cond, ltb, List, length, ◌⊎◌, inl, inr, sym, ap, subst, ◌∙◌, arith}
use Rattle.std.proofs.lemmas.Bool.{cases_eq}
use Rattle.apx_dag.specs.declared.link.Link.{Link}
use Rattle.apx_dag.specs.Order.{Feeds, IsWithin, Reaches, at_once, through}
use Rattle.apx_dag.specs.Marks.{mark_at, IsStuck}

-- a place below m with this value, or none
look : (g : ℕ → ℕ) (v m : ℕ) → ((k : ℕ) × (k < m) × (g k ≡ v)) ⊎ ((k : ℕ) → k < m → g k ≢ v)
look g v zero = inr (λ k lt e. omega arith)
look g v (suc m) =
    elim (look g v m) [
      | inl found ↦ inl (found.0, omega (arith, found.1), found.2)
      | inr none ↦ elim (cases_eq (g m) v) [
        | inl here ↦ inl (m, omega arith, here)
        | inr other ↦ inr (λ k lt e. elim (cases_eq k m) [ inl same ↦ other (ap g (sym same) ∙ e) | inr less ↦ none k (omega arith) e ])
      ]
    ]

-- the numbers without v, closed up
abbrev closed_up : ℕ → ℕ → ℕ
closed_up v x = cond (ltb v x) (x - 1) x

closed_up_below : (v x n : ℕ) → x < suc n → v < suc n → x ≢ v → closed_up v x < n
closed_up_below v x n lt vt ne = grind arith

closed_up_same : (v x y : ℕ) → x ≢ v → y ≢ v → closed_up v x ≡ closed_up v y → x ≡ y
closed_up_same v x y nx ny e = grind arith

-- of n + 1 numbers below n two are equal
pub two_equal : (n : ℕ) (g : ℕ → ℕ) → ((k : ℕ) → k < suc n → g k < n) → (a : ℕ) × (b : ℕ) × (a < b) × (b < suc n) × (g a ≡ g b)
two_equal zero g below = let lt : g 0 < 0 = below 0 (omega arith) in absurd (omega arith)
two_equal (suc n) g below =
    elim (look g (g (suc n)) (suc n)) [
      | inl found ↦ (found.0, suc n, found.1, omega arith, found.2)
      | inr none ↦
          let closed : (k : ℕ) → k < suc n → closed_up (g (suc n)) (g k) < n = λ k lt. closed_up_below (g (suc n)) (g k) n (below k (omega arith)) (below (suc n) (omega arith)) (none k lt) in
          let r = two_equal n (λ k. closed_up (g (suc n)) (g k)) closed in
          (r.0, r.1, r.2, omega (arith, r.3), closed_up_same (g (suc n)) (g r.0) (g r.1) (none r.0 (omega (arith, r.2, r.3))) (none r.1 r.3) r.4)
    ]

module _ (links : List Link) (placed : List Bool) (within : IsWithin links) (stuck : IsStuck links placed) where
  record Left (i : ℕ) : Type 0 where
    pub here : i < length links
    pub unmarked : mark_at placed i ≡ false

  record Stand : Type 0 where
    pub number : ℕ
    pub left : Left number

  back : Stand → Stand
  back s =
      let r = stuck s.number s.left.here s.left.unmarked in
      record { number = r.0; left = record { here = within r.0 s.number r.1.0; unmarked = r.1.1 } }

  back_feeds : (s : Stand) → Feeds links (back s).number s.number
  unfolding back
  back_feeds s = (stuck s.number s.left.here s.left.unmarked).1.0

  walk : Stand → ℕ → Stand
  walk s zero = s
  walk s (suc k) = back (walk s k)

  walk_reaches : (s : Stand) (b a : ℕ) → a < b → Reaches links (walk s b).number (walk s a).number
  unfolding back walk
  walk_reaches s zero a lt = absurd (omega arith)
  walk_reaches s (suc b) a lt =
      elim (cases_eq a b) [
        | inl same ↦ subst (λ (x : ℕ). Reaches links (walk s (suc b)).number (walk s x).number) (sym same) (at_once (back_feeds (walk s b)))
        | inr less ↦ through (back_feeds (walk s b)) (walk_reaches s b a (omega arith))
      ]

  pub loops : (i : ℕ) → i < length links → mark_at placed i ≡ false → (x : ℕ) × (x < length links) × Reaches links x x
  loops i here free =
      let start : Stand = record { number = i; left = record { here = here; unmarked = free } } in
      let r = two_equal (length links) (λ k. (walk start k).number) (λ k lt. (walk start k).left.here) in
      let x = (walk start r.0).number in
      (x, (walk start r.0).left.here, subst (λ (y : ℕ). Reaches links y x) (sym r.4) (walk_reaches start r.1 r.0 r.2))
