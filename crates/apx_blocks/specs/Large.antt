-- When the work of an operator is too large: some bag or state that a partition names has no room in a bag or a state.
use Rattle.std.specs.Prelude.{ℕ, ◌<◌, ◌-◌, ◌⊎◌}
use Rattle.apx_job.specs.Job.{in_force}
use Rattle.apx_pass.specs.Job.{Job}
use Rattle.apx_part.specs.Made.{IsLargePart}
use Rattle.apx_pass.specs.Pass.{progress_after}
use Rattle.apx_shares.specs.Given.{part_progress}
use Rattle.apx_tuple.specs.Progress.{IsLargeProgress}
use Rattle.apx_blocks.specs.Came.{came_left, came_right}

-- some partition of operator o names what is too large in window w
pub record IsLargeWork (job : Job) (w o : ℕ) : Type 0 where
  -- the partition
  pub part : ℕ
  -- there is such a partition
  pub there : part < in_force job o w
  -- it names what is too large
  pub is :
      IsLargePart job o part w (part_progress job.flow (in_force job o w) part (w - 1) o) (came_left job w o) (came_right job w o)

-- what operator o carries into window w is too large to be cut anew, or a partition names what is too large there
abbrev pub IsLargeAt : Job → ℕ → ℕ → Type 0
IsLargeAt job w o = IsLargeProgress (progress_after job.flow (w - 1) o) ⊎ IsLargeWork job w o
