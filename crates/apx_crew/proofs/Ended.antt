-- What a run that workers ended promises.
use Rattle.std.proofs.Common.{◌≡◌, ℕ, ◌<◌, false, List, subst}
use Rattle.apx_history.specs.declared.Entry.{Entry}
use Rattle.apx_history.specs.State.{State, running}
use Rattle.apx_history.specs.Journals.{beginning}
use Rattle.apx_history.specs.Laws.{IsHistory}
use Rattle.apx_history.proofs.Bounded.{is-bounded}
use Rattle.apx_job.specs.Job.{plan_of}
use Rattle.apx_lock.specs.Logs.{Every}
use Rattle.apx_course.specs.Run.{Run}
use Rattle.apx_work.specs.Turns.{IsOver}
use Rattle.apx_work.proofs.Stopping.{over_stands}
use Rattle.apx_sim.specs.Headline.{left_by}
use Rattle.apx_sim.proofs.Heads.{history_of, left_is}
use Rattle.apx_crew.specs.Headline.{IsDoneByWorkers}

module _ (run : Run) (planned : run.plan ≡ plan_of run.job) (from : 0 ≡ run.from) (es : List Entry) (over : IsOver es) where
  -- a run that is over goes on no more
  pub stands_left : running (left_by run.job run.stored es) ≡ false
  stands_left = subst (λ (m : State). running m ≡ false) (left_is run planned from es) (over_stands run.plan (beginning run.plan run.stored run.from) es over)

  -- what its workers did is one history of the job
  pub done_by : (workers : ℕ) → IsHistory run.plan run.stored run.from es → Every (λ e. e.worker < workers) es → IsDoneByWorkers run.job workers run.stored es
  done_by workers history by =
      let is : IsHistory (plan_of run.job) run.stored 0 es = history_of run planned from es history in
      record { history = is; by = by; stands = stands_left; few = is-bounded (plan_of run.job) run.stored 0 es is }
