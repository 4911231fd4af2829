-- Laws on the lines of a script: limits, boundaries, numbers of partitions, flags.
use Rattle.std.proofs.Common.{◌≡◌, ℕ, zero, suc, ◌+◌, ◌<◌, ◌≤◌, ◌⊎◌, inl, inr, max, min, Bool, true, false, cond, not, ◌&&◌, ◌==◌, nat_lt, List, [], ◌∷◌, length, get_or, set, refl, sym, ap, subst, ◌∙◌, arith}
use Rattle.std.proofs.lemmas.Bool.{leb-true, le-leb}
use Rattle.std.proofs.lemmas.Bool.Decides.{nat_tests}
use Rattle.apx_history.specs.Plan.{Act, Fails, Splits, Line, no_line, splits, splits_op, count_or, boundary_in, number_in, most_in}
use Rattle.apx_history.specs.Enabled.{limit_in}
use Rattle.apx_history.proofs.Tests.{both, test, which_min, which_max}
use Rattle.apx_history.proofs.Conditions.{all_true, equal_at, equal_by}

-- ---- flags

-- a set flag is there
pub flag_there : (xs : List Bool) (l : ℕ) → get_or xs l false ≡ true → l < length xs
flag_there [] l h = cc
flag_there (x ∷ xs) zero h = omega arith
flag_there (x ∷ xs) (suc l) h = let r = flag_there xs l h in omega arith

-- a flag that is cleared stays clear, and no other is changed
pub flag_cleared : (xs : List Bool) (l : ℕ) → get_or (set xs l false) l false ≡ false
flag_cleared [] l = refl
flag_cleared (x ∷ xs) zero = refl
flag_cleared (x ∷ xs) (suc l) = flag_cleared xs l

pub flag_other : (xs : List Bool) (l k : ℕ) → (k ≡ l → ⊥) → get_or (set xs l false) k false ≡ get_or xs k false
flag_other [] l k h = refl
flag_other (x ∷ xs) zero zero h = absurd (h refl)
flag_other (x ∷ xs) zero (suc k) h = refl
flag_other (x ∷ xs) (suc l) zero h = refl
flag_other (x ∷ xs) (suc l) (suc k) h = flag_other xs l k (λ e. h (ap suc e))

pub flag_was : (xs : List Bool) (l k : ℕ) → get_or (set xs l false) k false ≡ true → get_or xs k false ≡ true
flag_was [] l k h = h
flag_was (x ∷ xs) zero zero h = cc
flag_was (x ∷ xs) zero (suc k) h = h
flag_was (x ∷ xs) (suc l) zero h = h
flag_was (x ∷ xs) (suc l) (suc k) h = flag_was xs l k h

-- ---- the limit

module _ (o : ℕ) where
  pub limit-start : (ls : List Line) (bs : List Bool) (n : ℕ) → limit_in ls bs o n ≤ n
  unfolding limit_in
  limit-start [] bs n = omega arith
  limit-start (l ∷ ls) [] n = omega arith
  limit-start (l ∷ ls) (b ∷ bs) n = by (b && splits_op o l) (limit-start ls bs n)
    where
      by : (c : Bool) → limit_in ls bs o n ≤ n → cond c (min l.window (limit_in ls bs o n)) (limit_in ls bs o n) ≤ n
      by true h = omega arith
      by false h = h

  -- it is at most the window of each repartition that is left
  pub limit-le : (ls : List Line) (bs : List Bool) (n k : ℕ) → k < length ls → get_or bs k false ≡ true → splits_op o (get_or ls k no_line) ≡ true → limit_in ls bs o n ≤ (get_or ls k no_line).window
  unfolding limit_in
  limit-le [] bs n k r b s = absurd (omega arith)
  limit-le (l ∷ ls) [] n k r b s = cc
  limit-le (l ∷ ls) (c ∷ bs) n zero r b s = by c (splits_op o l) b s
    where
      by : (c t : Bool) → c ≡ true → t ≡ true → cond (c && t) (min l.window (limit_in ls bs o n)) (limit_in ls bs o n) ≤ l.window
      by true true b s = omega arith
      by true false b s = cc
      by false t b s = cc
  limit-le (l ∷ ls) (c ∷ bs) n (suc k) r b s = by (c && splits_op o l) (limit-le ls bs n k (omega arith) b s)
    where
      by : (t : Bool) → limit_in ls bs o n ≤ (get_or ls k no_line).window → cond t (min l.window (limit_in ls bs o n)) (limit_in ls bs o n) ≤ (get_or ls k no_line).window
      by true h = omega arith
      by false h = h

  -- it is the end, or the window of a repartition that is left
  pub limit-is : (ls : List Line) (bs : List Bool) (n : ℕ) → (limit_in ls bs o n ≡ n) ⊎
      ((k : ℕ) × (k < length ls) × (get_or bs k false ≡ true) × (splits_op o (get_or ls k no_line) ≡ true) × (limit_in ls bs o n ≡ (get_or ls k no_line).window))
  unfolding limit_in
  limit-is [] bs n = inl refl
  limit-is (l ∷ ls) [] n = inl refl
  limit-is (l ∷ ls) (c ∷ bs) n = by c refl (splits_op o l) refl (limit-is ls bs n) (which_min l.window (limit_in ls bs o n))
    where
      by : (d : Bool) → d ≡ c → (t : Bool) → t ≡ splits_op o l →
          (limit_in ls bs o n ≡ n) ⊎ ((k : ℕ) × (k < length ls) × (get_or bs k false ≡ true) × (splits_op o (get_or ls k no_line) ≡ true) × (limit_in ls bs o n ≡ (get_or ls k no_line).window)) →
          (min l.window (limit_in ls bs o n) ≡ l.window) ⊎ (min l.window (limit_in ls bs o n) ≡ limit_in ls bs o n) →
          (cond (d && t) (min l.window (limit_in ls bs o n)) (limit_in ls bs o n) ≡ n) ⊎
          ((k : ℕ) × (k < length (l ∷ ls)) × (get_or (c ∷ bs) k false ≡ true) × (splits_op o (get_or (l ∷ ls) k no_line) ≡ true) × (cond (d && t) (min l.window (limit_in ls bs o n)) (limit_in ls bs o n) ≡ (get_or (l ∷ ls) k no_line).window))
      by true e true f r (inl s) = inr (0, omega arith, sym e, sym f, s)
      by true e true f (inl r) (inr s) = inl (s ∙ r)
      by true e true f (inr r) (inr s) = inr (suc r.0, omega (arith, r.1), r.2, r.3, s ∙ r.4)
      by true e false f (inl r) w = inl r
      by true e false f (inr r) w = inr (suc r.0, omega (arith, r.1), r.2, r.3, r.4)
      by false e t f (inl r) w = inl r
      by false e t f (inr r) w = inr (suc r.0, omega (arith, r.1), r.2, r.3, r.4)

  -- a cleared flag raises it at most
  pub limit-cleared : (ls : List Line) (bs : List Bool) (n l : ℕ) → limit_in ls bs o n ≤ limit_in ls (set bs l false) o n
  unfolding limit_in
  limit-cleared [] bs n l = omega arith
  limit-cleared (x ∷ ls) [] n l = omega arith
  limit-cleared (x ∷ ls) (c ∷ bs) n zero = by (c && splits_op o x)
    where
      by : (t : Bool) → cond t (min x.window (limit_in ls bs o n)) (limit_in ls bs o n) ≤ limit_in ls bs o n
      by true = omega arith
      by false = omega arith
  limit-cleared (x ∷ ls) (c ∷ bs) n (suc l) = by (c && splits_op o x) (limit-cleared ls bs n l)
    where
      by : (t : Bool) → limit_in ls bs o n ≤ limit_in ls (set bs l false) o n → cond t (min x.window (limit_in ls bs o n)) (limit_in ls bs o n) ≤ cond t (min x.window (limit_in ls (set bs l false) o n)) (limit_in ls (set bs l false) o n)
      by true h = omega arith
      by false h = h

  -- and leaves it where the line is no repartition of the operator
  pub limit-same : (ls : List Line) (bs : List Bool) (n l : ℕ) → splits_op o (get_or ls l no_line) ≡ false → limit_in ls (set bs l false) o n ≡ limit_in ls bs o n
  unfolding limit_in
  limit-same [] bs n l h = refl
  limit-same (x ∷ ls) [] n l h = refl
  limit-same (x ∷ ls) (c ∷ bs) n zero h = by c (splits_op o x) h
    where
      by : (c t : Bool) → t ≡ false → limit_in ls bs o n ≡ cond (c && t) (min x.window (limit_in ls bs o n)) (limit_in ls bs o n)
      by true true h = cc
      by true false h = refl
      by false t h = refl
  limit-same (x ∷ ls) (c ∷ bs) n (suc l) h = ap (λ (k : ℕ). cond (c && splits_op o x) (min x.window k) k) (limit-same ls bs n l h)

  -- ---- boundaries

  pub boundary-above : (ls : List Line) (w k : ℕ) → k < length ls → splits_op o (get_or ls k no_line) ≡ true → (get_or ls k no_line).window < w → (get_or ls k no_line).window ≤ boundary_in ls o w
  unfolding boundary_in
  boundary-above [] w k r s h = absurd (omega arith)
  boundary-above (l ∷ ls) w zero r s h = by (splits_op o l && nat_lt l.window w) (all_true s (le-leb (suc l.window) w h))
    where
      by : (t : Bool) → t ≡ true → l.window ≤ cond t (max l.window (boundary_in ls o w)) (boundary_in ls o w)
      by true e = omega arith
      by false e = cc
  boundary-above (l ∷ ls) w (suc k) r s h = by (splits_op o l && nat_lt l.window w) (boundary-above ls w k (omega arith) s h)
    where
      by : (t : Bool) → (get_or ls k no_line).window ≤ boundary_in ls o w → (get_or ls k no_line).window ≤ cond t (max l.window (boundary_in ls o w)) (boundary_in ls o w)
      by true e = omega arith
      by false e = e

  pub boundary-by : (ls : List Line) (w b : ℕ) → ((k : ℕ) → k < length ls → splits_op o (get_or ls k no_line) ≡ true → (get_or ls k no_line).window < w → (get_or ls k no_line).window ≤ b) → boundary_in ls o w ≤ b
  unfolding boundary_in
  boundary-by [] w b h = omega arith
  boundary-by (l ∷ ls) w b h = by (splits_op o l) (nat_lt l.window w) refl refl (boundary-by ls w b (λ k r. h (suc k) (omega arith)))
    where
      by : (s t : Bool) → s ≡ splits_op o l → t ≡ nat_lt l.window w → boundary_in ls o w ≤ b → cond (s && t) (max l.window (boundary_in ls o w)) (boundary_in ls o w) ≤ b
      by true true e f rest = let g = h 0 (omega arith) (sym e) (leb-true (suc l.window) w (sym f)) in omega arith
      by true false e f rest = rest
      by false t e f rest = rest

  -- ---- numbers of partitions

  -- what the repartition at b gives, where all that repartition there give the same
  pub number-is : (ls : List Line) (b n c l : ℕ) → l < length ls → splits_op o (get_or ls l no_line) ≡ true → (get_or ls l no_line).window ≡ b →
      ((k : ℕ) → k < length ls → splits_op o (get_or ls k no_line) ≡ true → (get_or ls k no_line).window ≡ b → count_or n (get_or ls k no_line).act ≡ c) → number_in ls o b n ≡ c
  unfolding number_in
  number-is [] b n c l r s w u = absurd (omega arith)
  number-is (x ∷ ls) b n c l r s w u = by (splits_op o x) (x.window == b) refl refl (λ l r s w. number-is ls b n c l r s w (λ k t. u (suc k) (omega arith)))
    where
      rest : (l : ℕ) → l < length (x ∷ ls) → splits_op o (get_or (x ∷ ls) l no_line) ≡ true → (get_or (x ∷ ls) l no_line).window ≡ b → (splits_op o x && x.window == b) ≡ false →
          ((l : ℕ) → l < length ls → splits_op o (get_or ls l no_line) ≡ true → (get_or ls l no_line).window ≡ b → number_in ls o b n ≡ c) → number_in ls o b n ≡ c
      rest zero r s w off later = let on : true ≡ false = sym (all_true s (equal_by x.window b w)) ∙ off in cc
      rest (suc l) r s w off later = later l (omega arith) s w

      by : (s' t : Bool) → s' ≡ splits_op o x → t ≡ x.window == b →
          ((l : ℕ) → l < length ls → splits_op o (get_or ls l no_line) ≡ true → (get_or ls l no_line).window ≡ b → number_in ls o b n ≡ c) → cond (s' && t) (count_or n x.act) (number_in ls o b n) ≡ c
      by true true e f later = u 0 (omega arith) (sym e) (equal_at x.window b (sym f))
      by true false e f later = rest l r s w (ap (λ (v : Bool). v && x.window == b) (sym e) ∙ sym f) later
      by false t e f later = rest l r s w (ap (λ (v : Bool). v && x.window == b) (sym e)) later

  -- it is the first number, or that of a repartition
  pub number-from : (ls : List Line) (b n : ℕ) → (number_in ls o b n ≡ n) ⊎ ((k : ℕ) × (k < length ls) × (splits_op o (get_or ls k no_line) ≡ true) × (number_in ls o b n ≡ count_or n (get_or ls k no_line).act))
  unfolding number_in
  number-from [] b n = inl refl
  number-from (x ∷ ls) b n = by (splits_op o x) (x.window == b) refl (number-from ls b n)
    where
      by : (s t : Bool) → s ≡ splits_op o x → (number_in ls o b n ≡ n) ⊎ ((k : ℕ) × (k < length ls) × (splits_op o (get_or ls k no_line) ≡ true) × (number_in ls o b n ≡ count_or n (get_or ls k no_line).act)) →
          (cond (s && t) (count_or n x.act) (number_in ls o b n) ≡ n) ⊎ ((k : ℕ) × (k < length (x ∷ ls)) × (splits_op o (get_or (x ∷ ls) k no_line) ≡ true) × (cond (s && t) (count_or n x.act) (number_in ls o b n) ≡ count_or n (get_or (x ∷ ls) k no_line).act))
      by true true e r = inr (0, omega arith, sym e, refl)
      by true false e (inl r) = inl r
      by true false e (inr r) = inr (suc r.0, omega (arith, r.1), r.2, r.3)
      by false t e (inl r) = inl r
      by false t e (inr r) = inr (suc r.0, omega (arith, r.1), r.2, r.3)

  -- and at most the greatest
  pub number-most : (ls : List Line) (b n : ℕ) → number_in ls o b n ≤ most_in ls o n
  unfolding number_in most_in
  number-most [] b n = omega arith
  number-most (x ∷ ls) b n = by (splits_op o x) (x.window == b) (number-most ls b n)
    where
      by : (s t : Bool) → number_in ls o b n ≤ most_in ls o n → cond (s && t) (count_or n x.act) (number_in ls o b n) ≤ cond s (max (count_or n x.act) (most_in ls o n)) (most_in ls o n)
      by true true h = omega arith
      by true false h = omega arith
      by false t h = h
