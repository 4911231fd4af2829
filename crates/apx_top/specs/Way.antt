-- In which way a run of a job goes on.
use Rattle.std.specs.Prelude.{ℕ, List}
use Rattle.apx_history.specs.declared.Entry.{Entry}
use Rattle.apx_pass.specs.Job.{Job}
use Rattle.apx_sim.specs.Headline.{OneHistory}
use Rattle.apx_crew.specs.Headline.{IsDoneByWorkers}

-- the way of a run
pub data Way : Type 0 where
  -- on one thread, in the order that a number picks
  in_order : ℕ → Way
  -- by so many workers, each in a thread of its own, in whatever order they come
  by_workers : ℕ → Way

-- what happened in a run of the job that went this way, over a store with the windows up to s, is one history
abbrev pub IsHistoryBy : Job → Way → ℕ → List Entry → Type 0
IsHistoryBy job (in_order order) s es = OneHistory job order s es
IsHistoryBy job (by_workers workers) s es = IsDoneByWorkers job workers s es
