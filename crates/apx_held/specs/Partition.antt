-- What a partition carries and sends in an epoch of its operator, over the job. Operators and partitions count from 0, and
-- windows from 1. The epoch is named by its boundary b.
--     progress_at job o b i w              what partition i of operator o carries from window w to the next
--     tuples_at job o b i w                what it gives in window w
--     blocks_at job o b i w                the blocks of these tuples
--     blocks_above job o b i floor top     its blocks of the windows above floor up to top
--     spelling_at job o b i w              the bytes of its checkpoint after window w
use Rattle.std.specs.Prelude.{ℕ, zero, suc, nat_lt, cond, List, [], ◌++◌, map}
use Rattle.apx_history.specs.Plan as history
use Rattle.apx_tuple.specs.declared.progress.Progress.{Progress}
use Rattle.apx_tuple.specs.declared.tuple.Tuple.{Tuple}
use Rattle.apx_list.specs.declared.block.Block.{Block}
use Rattle.apx_list.specs.Cut.{blocks_of}
use Rattle.apx_pass.specs.Graph.{node_at}
use Rattle.apx_pass.specs.Job.{Job}
use Rattle.apx_job.specs.Job.{command_in}
use Rattle.apx_shares.specs.Given.{part_progress, part_rows}
use Rattle.apx_part.specs.Fed.{plan_in}
use Rattle.apx_statebytes.specs.Spelling.{second_spelling}

-- how many partitions operator o has in the epoch
abbrev pub parts_from : Job → ℕ → ℕ → ℕ
parts_from job o b = history.number_in (map (command_in job.flow.nodes) job.script) o b (node_at job.flow.nodes o).partitions

-- what partition i carries from window w to the next
unfoldable pub progress_at : Job → ℕ → ℕ → ℕ → ℕ → Progress
progress_at job o b i w = part_progress job.flow (parts_from job o b) i w o

-- what it gives in window w
unfoldable pub tuples_at : Job → ℕ → ℕ → ℕ → ℕ → List Tuple
tuples_at job o b i w = part_rows job.flow (parts_from job o b) i w o

-- the blocks of these tuples
unfoldable pub blocks_at : Job → ℕ → ℕ → ℕ → ℕ → List Block
blocks_at job o b i w = blocks_of (plan_in job) w (tuples_at job o b i w)

-- its blocks of the windows above one up to another
unfoldable pub blocks_above : Job → ℕ → ℕ → ℕ → ℕ → ℕ → List Block
blocks_above job o b i floor zero = []
blocks_above job o b i floor (suc top) =
    cond (nat_lt floor (suc top)) (blocks_above job o b i floor top ++ blocks_at job o b i (suc top)) []

-- the bytes of its checkpoint after window w
abbrev pub spelling_at : Job → ℕ → ℕ → ℕ → ℕ → List ℕ
spelling_at job o b i w = second_spelling (progress_at job o b i w)
