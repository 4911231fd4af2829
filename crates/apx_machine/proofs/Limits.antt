-- The limit of an operator, found line by line.
use Rattle.std.proofs.Common.{◌≡◌, ℕ, zero, suc, ◌<◌, ◌≤◌, min, Bool, true, false, cond, ◌&&◌, List, [], ◌∷◌, length, get_or, drop, refl, sym, ap, ◌∙◌, arith}
use Rattle.std.proofs.Math.ListN.{drop_of_length-le}
use Rattle.apx_history.specs.declared.Line.{Line}
use Rattle.apx_history.specs.Plan.{no_line, splits_op}
use Rattle.apx_history.specs.Enabled.{limit_in}

-- no flag, no limit
limit_nil : (ls : List Line) (o n : ℕ) → limit_in ls [] o n ≡ n
unfolding limit_in
limit_nil [] o n = refl
limit_nil (l ∷ ls) o n = refl

-- the least of a window and the limit is the limit with the least of both as the end
limit_min : (ls : List Line) (bs : List Bool) (o w n : ℕ) → limit_in ls bs o (min w n) ≡ min w (limit_in ls bs o n)
unfolding limit_in
limit_min [] bs o w n = refl
limit_min (l ∷ ls) [] o w n = refl
limit_min (l ∷ ls) (b ∷ bs) o w n = by (b && splits_op o l) (limit_min ls bs o w n)
  where
    by : (t : Bool) → limit_in ls bs o (min w n) ≡ min w (limit_in ls bs o n) →
        cond t (min l.window (limit_in ls bs o (min w n))) (limit_in ls bs o (min w n)) ≡ min w (cond t (min l.window (limit_in ls bs o n)) (limit_in ls bs o n))
    by true h = omega arith
    by false h = h

pub limit_step : (k : ℕ) (ls : List Line) (bs : List Bool) (o n : ℕ) → k < length ls →
    limit_in (drop (suc k) ls) (drop (suc k) bs) o (cond (get_or bs k false && splits_op o (get_or ls k no_line)) (min (get_or ls k no_line).window n) n) ≡ limit_in (drop k ls) (drop k bs) o n
unfolding limit_in
limit_step k [] bs o n h = absurd (omega arith)
limit_step zero (l ∷ ls) [] o n h = limit_nil ls o n
limit_step zero (l ∷ ls) (b ∷ bs) o n h = by (b && splits_op o l)
  where
    by : (t : Bool) → limit_in ls bs o (cond t (min l.window n) n) ≡ cond t (min l.window (limit_in ls bs o n)) (limit_in ls bs o n)
    by true = limit_min ls bs o l.window n
    by false = refl
limit_step (suc k) (l ∷ ls) [] o n h = limit_nil (drop (suc k) ls) o n ∙ sym (limit_nil (drop k ls) o n)
limit_step (suc k) (l ∷ ls) (b ∷ bs) o n h = limit_step k ls bs o n (omega arith)

pub limit_all : (k : ℕ) (ls : List Line) (bs : List Bool) (o n : ℕ) → length ls ≤ k → limit_in (drop k ls) (drop k bs) o n ≡ n
unfolding limit_in
limit_all k ls bs o n h = ap (λ xs. limit_in xs (drop k bs) o n) (drop_of_length-le ls h)
