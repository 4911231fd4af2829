-- Jobs: a dataflow with the commands that a run of it is to meet, and what the run is told beside its files.
use Rattle.std.specs.Prelude.{ℕ, List}
use Rattle.apx_pass.specs.Pass.{Dataflow}
use Rattle.apx_pass.specs.Script.{Line}

-- what a run is told beside its files
pub record Settings : Type 0 where
  -- the second that the first window's identifier bears
  pub base : ℕ
  -- the windows from one checkpoint to the next
  pub every : ℕ
  -- the most bytes of a block
  pub block : ℕ
  -- the blocks of a list that stay in memory
  pub keep : ℕ

-- a dataflow, the commands that a run of it is to meet, and its settings
pub record Job : Type 0 where
  -- the graph, and what its inputs read
  pub flow : Dataflow
  -- the commands, in the order of the script
  pub script : List Line
  -- what the run is told beside its files
  pub settings : Settings
