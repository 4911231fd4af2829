-- What the partitions of an operator make of a window.
use Rattle.std.specs.Prelude.{◌≡◌, ℕ, false, true, List}
use Rattle.apx_pass.specs.Job.{Job}
use Rattle.apx_list.specs.declared.block.Block.{Block}
use Rattle.apx_part.specs.Fed.{plan_in, AreWindows, given_in}
use Rattle.apx_pass.specs.Graph.{node_at, is_sink}
use Rattle.apx_pass.specs.Pass.{rows_at}
use Rattle.apx_tuple.specs.declared.progress.Progress.{Progress}
use Rattle.apx_tuple.specs.declared.tuple.Tuple.{Tuple}
use Rattle.apx_blocks.specs.Carried.{parts_after}

-- they are those of the one pass in window w: what each partition carries on, its blocks, and the sink's rows
pub record IsWorked (job : Job) (o w : ℕ) (parts : List Progress) (sent : List (List Block)) (rows : List Tuple) : Type 0 where
  -- what they carry on
  pub parts_are : parts ≡ parts_after job w o
  -- an operator that isn't the sink sends what each partition gives
  pub sent_are : is_sink (node_at job.flow.nodes o).role ≡ false → AreWindows (plan_in job) w sent (given_in job w o)
  -- the sink has all that reaches it
  pub rows_are : is_sink (node_at job.flow.nodes o).role ≡ true → rows ≡ rows_at job.flow w o
