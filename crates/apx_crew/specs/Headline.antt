-- What the workers of a run did. Whatever else is promised of a whole run is promised of it in any order, on one thread or by
-- several: those records stand in `apx_sim`.
use Rattle.std.specs.Prelude.{◌≡◌, ℕ, ◌<◌, ◌≤◌, false, List, length}
use Rattle.apx_history.specs.declared.Entry.{Entry}
use Rattle.apx_history.specs.State.{running}
use Rattle.apx_history.specs.Laws.{IsHistory, bound}
use Rattle.apx_pass.specs.Job.{Job}
use Rattle.apx_job.specs.Job.{plan_of}
use Rattle.apx_lock.specs.Logs.{Every}
use Rattle.apx_sim.specs.Headline.{left_by}

-- What the workers did is one history of a job, over a store with the windows up to s: each entry may come where it stands, by a
-- worker who may do it. Behind the entries nothing may come.
pub record IsDoneByWorkers (job : Job) (workers s : ℕ) (es : List Entry) : Type 0 where
  -- it is a history of the job
  pub history : IsHistory (plan_of job) s 0 es
  -- each entry is by one of the workers
  pub by : Every (λ e. e.worker < workers) es
  -- the run goes on no more
  pub stands : running (left_by job s es) ≡ false
  -- it is no longer than the bound of the job
  pub few : length es ≤ bound (plan_of job)
