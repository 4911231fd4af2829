-- What a run may put into its checkpoint store.
use Rattle.std.specs.Prelude.{Bool, List, ℕ, Some}
use Rattle.apx_device.specs.declared.vault.SaveId.{SaveId}
use Rattle.apx_pass.specs.Job.{Job}
use Rattle.apx_job.specs.Job.{plan_of}
use Rattle.apx_promise.specs.Checkpoints.{MayBeSaved}
use Rattle.apx_held.specs.Fits.{IsSaved}

-- An entry that a run of the job may have put: its id is one that may be there, whatever is committed, and its bytes are the
-- checkpoint of that id.
pub record IsOfRun (job : Job) (told : Bool) (id : SaveId) (bytes : List ℕ) : Type 0 where
  -- an operator, a boundary of it, a partition that it has behind that, and a window of the epoch behind which checkpoints are made
  pub may : MayBeSaved (plan_of job) 0 id
  -- the bytes spell a progress that isn't large; where checkpoint store and spools tell, that is what the partition carries
  pub saved : IsSaved job told id.op id.boundary id.part id.window (Some bytes)
