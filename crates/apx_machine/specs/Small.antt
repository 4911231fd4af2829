-- The limits within which a machine's numbers fit its events.
use Rattle.std.specs.Prelude.{ℕ, ◌<◌, ◌≤◌, length}
use Rattle.apx_history.specs.Plan.{Plan, operator, line, count_or}

-- a plan within the limits of a job
pub record IsSmall (plan : Plan) : Type 0 where
  -- there are at most 20,000 windows
  pub windows : plan.windows ≤ 20000
  -- at most 16 operators
  pub operators : length plan.operators ≤ 16
  -- each with at most 8 partitions at first
  pub first : (o : ℕ) → o < length plan.operators → (operator plan o).first ≤ 8
  -- or after a repartition
  pub counts : (l : ℕ) → l < length plan.lines → count_or 0 (line plan l).act ≤ 8
  -- and at most 1,000 lines
  pub lines : length plan.lines ≤ 1000
