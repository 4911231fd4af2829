-- The name of a run.
use Rattle.std.specs.Prelude.{ℕ, Bool, false, List, []}
use Rattle.apx_tuple.specs.declared.tuple.Tuple.{Tuple}
use Rattle.apx_device.specs.Vault.{Entry}
use Rattle.apx_history.specs.Plan.{Plan}
use Rattle.apx_pass.specs.Job.{Job}

-- what was fixed as a run began
pub record Run : Type 0 where
  -- its job
  pub job : Job
  -- the plan of the job, as its machine has it
  pub plan : Plan
  -- its checkpoint store and its spools tell what they hold
  pub told : Bool
  -- the last window that the sink's store had
  pub stored : ℕ
  -- the rows of each window that the sink's store had, where it tells
  pub rows : List (List Tuple)
  -- what the checkpoint store had, where it tells
  pub entries : List Entry
  -- the window behind which the run began
  pub from : ℕ
  -- how many faults the sink's store had counted
  pub keeper : ℕ
  -- how many faults the checkpoint store had counted
  pub vault : ℕ
  -- how many faults the maker of spools had counted
  pub spools : ℕ

-- a job without operators
abbrev pub no_job : Job
no_job = record {
  flow = record { nodes = []; inputs = [] };
  script = [];
  settings = record { base = 0; every = 0; block = 0; keep = 0 };
}

-- a run without operators
abbrev pub no_run : Run
no_run = record {
  job = no_job;
  plan = record { windows = 0; every = 0; sink = 0; operators = []; lines = [] };
  told = false;
  stored = 0;
  rows = [];
  entries = [];
  from = 0;
  keeper = 0;
  vault = 0;
  spools = 0;
}
