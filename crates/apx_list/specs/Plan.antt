-- The limits of a plan, and its windows.
use Rattle.std.specs.Prelude.{ℕ, ◌≤◌}
use Rattle.apx_list.specs.declared.plan.CutPlan.{CutPlan}

-- the limits of a plan
pub record IsPlan (plan : CutPlan) : Type 0 where
  -- the first second leaves room for the others
  pub base : plan.base ≤ 4294959295
  -- there is an interval
  pub every_least : 1 ≤ plan.every
  -- of at most 1,000 windows
  pub every_most : plan.every ≤ 1000
  -- there are at most 20,000 windows
  pub windows : plan.windows ≤ 20000
  -- the greatest message fits a block
  pub size_least : 1040 ≤ plan.size
  -- a block has at most 1 MiB
  pub size_most : plan.size ≤ 1048576

-- a window of the run
pub record IsWindow (plan : CutPlan) (window : ℕ) : Type 0 where
  -- windows count from 1
  pub from_one : 1 ≤ window
  -- up to the last one of the run
  pub there : window ≤ plan.windows
