-- What the partitions of an operator carry from one window to the next, in order.
--     parts_after job w o    from window w on: before the first window nothing, in one part
--     parts_into job w o     into window w, cut to the partitions that the operator has in it
use Rattle.std.specs.Prelude.{◌≡◌, ℕ, zero, suc, ◌≤◌, ◌-◌, List, [], ◌∷◌, length}
use Rattle.apx_job.specs.Job.{in_force}
use Rattle.apx_pass.specs.Job.{Job}
use Rattle.apx_pass.specs.Pass.{at_start}
use Rattle.apx_rules.specs.Parts.{of_parts}
use Rattle.apx_shares.specs.Carried.{cut_progress}
use Rattle.apx_shares.specs.Given.{part_progress}
use Rattle.apx_tuple.specs.declared.progress.Progress.{Progress}

-- the parts are the cuts of the whole to as many partitions as there are, one or more
pub record AreCuts (parts : List Progress) (whole : Progress) : Type 0 where
  -- there is a part
  pub some : 1 ≤ length parts
  -- they are the cuts
  pub are : parts ≡ of_parts (length parts) (λ i. cut_progress (length parts) i whole)

-- what the partitions of operator o carry from window w on
unfoldable pub parts_after : Job → ℕ → ℕ → List Progress
parts_after job zero o = at_start ∷ []
parts_after job (suc w) o = of_parts (in_force job o (suc w)) (λ i. part_progress job.flow (in_force job o (suc w)) i (suc w) o)

-- what they carry into window w
abbrev pub parts_into : Job → ℕ → ℕ → List Progress
parts_into job w o = of_parts (in_force job o w) (λ i. part_progress job.flow (in_force job o w) i (w - 1) o)
