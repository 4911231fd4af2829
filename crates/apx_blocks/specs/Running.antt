-- A run that has gone through some windows.
use Rattle.std.specs.Prelude.{◌≡◌, ℕ, List, map}
use Rattle.apx_keys.specs.Keys.{InputsHave, IsShort}
use Rattle.apx_pass.specs.Job.{Job}
use Rattle.apx_pass.specs.Order.{IsOrder}
use Rattle.apx_tuple.specs.declared.progress.Progress.{Progress}
use Rattle.apx_blocks.specs.Carried.{parts_after}

-- the job, and how many windows the run has gone through
pub record Running : Type 0 where
  -- the job
  pub job : Job
  -- how many windows were passed
  pub passed : ℕ

-- what is kept, in an order of the operators: what the partitions of each carry on
pub record IsRunning (running : Running) (order : List ℕ) (parts : List (List Progress)) : Type 0 where
  -- no input gives a tuple with a key of more than 1,024 bytes
  pub short : InputsHave IsShort running.job.flow
  -- each operator stands behind those that it reads
  pub ordered : IsOrder running.job.flow.nodes order
  -- those of each operator carry what they do after the windows that were passed
  pub carried : parts ≡ map (parts_after running.job running.passed) order
