-- What a search through a list tells, in the words of the table.
use Rattle.std.proofs.Common.{◌≡◌, ℕ, zero, suc, ◌<◌, ◌≤◌, max, Bool, true, false, cond, not, ◌&&◌, ◌||◌, ◌==◌, List, [], ◌∷◌, length, get_or, drop, refl, sym, ap, ◌∙◌, arith}
use Rattle.std.proofs.Math.ListN.{get_or-eq_default, drop_of_length-le}
use Rattle.apx_history.specs.Plan.{Plan, Operator, no_operator, has, reads, below}
use Rattle.apx_history.specs.Enabled.{greatest, all_met}
use Rattle.apx_history.proofs.Tests.{not_true}
use Rattle.apx_history.proofs.Conditions.{equal_at, equal_by}

pub has_none : (xs : List ℕ) (w : ℕ) → ((k : ℕ) → k < length xs → get_or xs k 0 ≡ w → ⊥) → false ≡ has xs w
unfolding has
has_none [] w h = refl
has_none (x ∷ xs) w h = ap (λ (b : Bool). b || false) (sym (not_true (x == w) (λ t. h 0 (omega arith) (equal_at x w t))))
    ∙ ap (λ (b : Bool). x == w || b) (has_none xs w (λ k r. h (suc k) (omega arith)))

pub has_one : (xs : List ℕ) (w k : ℕ) → k < length xs → get_or xs k 0 ≡ w → true ≡ has xs w
unfolding has
has_one [] w k r h = absurd (omega arith)
has_one (x ∷ xs) w zero r h = ap (λ (b : Bool). b || has xs w) (sym (equal_by x w h))
has_one (x ∷ xs) w (suc k) r h = by (x == w) (has_one xs w k (omega arith) h)
  where
    by : (b : Bool) → true ≡ has xs w → true ≡ (b || has xs w)
    by true g = refl
    by false g = g

pub reads_beyond : (plan : Plan) (o s : ℕ) → length plan.operators ≤ o → false ≡ reads plan o s
unfolding has
reads_beyond plan o s h = ap (λ (p : Operator). has p.sources s) (sym (get_or-eq_default plan.operators no_operator h))

pub below_beyond : (plan : Plan) (s o : ℕ) → length plan.operators ≤ s → false ≡ below plan s o
unfolding has
below_beyond plan s o h = ap (λ (p : Operator). has p.under o) (sym (get_or-eq_default plan.operators no_operator h))

pub met_none : (xs : List Bool) → ((k : ℕ) → k < length xs → get_or xs k false ≡ false) → true ≡ all_met xs
unfolding all_met
met_none [] h = refl
met_none (x ∷ xs) h = ap (λ (b : Bool). not b && true) (sym (h 0 (omega arith))) ∙ ap (λ (b : Bool). not x && b) (met_none xs (λ k r. h (suc k) (omega arith)))

pub met_one : (xs : List Bool) (k : ℕ) → k < length xs → get_or xs k false ≡ true → false ≡ all_met xs
unfolding all_met
met_one [] k r h = absurd (omega arith)
met_one (x ∷ xs) zero r h = ap (λ (b : Bool). not b && all_met xs) (sym h)
met_one (x ∷ xs) (suc k) r h = by (not x) (met_one xs k (omega arith) h)
  where
    by : (b : Bool) → false ≡ all_met xs → false ≡ (b && all_met xs)
    by true g = g
    by false g = refl

-- the greatest so far, and of what is left
pub greatest_step : (p : ℕ → Bool) (xs : List ℕ) (k g : ℕ) → k < length xs →
    max g (greatest p (drop k xs)) ≡ max (cond (p (get_or xs k 0)) (max (get_or xs k 0) g) g) (greatest p (drop (suc k) xs))
unfolding greatest
greatest_step p [] k g h = absurd (omega arith)
greatest_step p (x ∷ xs) zero g h = by (p x)
  where
    by : (b : Bool) → max g (cond b (max x (greatest p xs)) (greatest p xs)) ≡ max (cond b (max x g) g) (greatest p xs)
    by true = omega arith
    by false = refl
greatest_step p (x ∷ xs) (suc k) g h = greatest_step p xs k g (omega arith)

pub greatest_all : (p : ℕ → Bool) (xs : List ℕ) (k g : ℕ) → length xs ≤ k → max g (greatest p (drop k xs)) ≡ g
unfolding greatest
greatest_all p xs k g h = ap (λ ys. max g (greatest p ys)) (drop_of_length-le xs h) ∙ zeroed
  where
    zeroed : max g 0 ≡ g
    zeroed = omega arith
