-- What is kept at the start, and for an operator that goes on with other partitions.
use Rattle.std.specs.Prelude.{◌≡◌, ℕ, ◌<◌, List, [], length, replicate, get_or, Some}
use Rattle.apx_history.specs.State.{State, oper}
use Rattle.apx_list.specs.declared.plan.CutPlan.{CutPlan}
use Rattle.apx_pass.specs.Pass.{at_start}
use Rattle.apx_held.specs.Holding.{Holding, empty_list}

-- what is kept for a partition that has nothing behind it
abbrev pub first_holding : CutPlan → Holding
first_holding plan = record { state = Some at_start; list = empty_list plan 0 }

-- so much is kept for each partition
pub record AreFirst (plan : CutPlan) (m : State) (hs : List (List Holding)) : Type 0 where
  -- the operators are the machine's
  pub ops : length hs ≡ length m.ops
  -- none of their partitions has anything behind it
  pub groups : (o : ℕ) → o < length m.ops → get_or hs o [] ≡ replicate (length (oper m o).parts) (first_holding plan)
