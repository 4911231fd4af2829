-- What a partition makes of a window of blocks.
use Rattle.std.specs.Prelude.{◌≡◌, ℕ, ◌⊎◌, ◌++◌, List, [], Option, cond, IsTrue}
use Rattle.apx_tuple.specs.declared.kind.Kind.{Kind}
use Rattle.apx_tuple.specs.declared.progress.Progress.{Progress}
use Rattle.apx_tuple.specs.declared.tuple.Tuple.{Tuple}
use Rattle.apx_tuple.specs.Kind.{has_right}
use Rattle.apx_tuple.specs.Progress.{IsLargeProgress}
use Rattle.apx_tuple.specs.Size.{IsLarge}
use Rattle.apx_tuple.specs.Tuple.{tuple_key, bag_of}
use Rattle.apx_list.specs.declared.block.Block.{Block}
use Rattle.apx_list.specs.declared.plan.CutPlan.{CutPlan}
use Rattle.apx_list.specs.Cut.{blocks_of}
use Rattle.apx_list.specs.Window.{SpellWindow}
use Rattle.apx_pass.specs.Job.{Job}
use Rattle.apx_job.specs.Job.{in_force}
use Rattle.apx_pass.specs.Graph.{Role, Input, Inner, Sink, Node, node_at, is_sink}
use Rattle.apx_pass.specs.Groups as groups
use Rattle.apx_pass.specs.Pass.{Passed, gather, input_at, rows_at}
use Rattle.apx_rules.specs.Parts.{cut_bag, merge_bags}
use Rattle.apx_shares.specs.Given.{unify_of, pass_part, part_progress, part_rows}
use Rattle.apx_part.specs.Fed.{plan_in}

-- what partition i of n of an operator makes of a window in which these bags come, one of each partition of a source
abbrev pub made_by : List Node → Node → ℕ → ℕ → Option groups.Input → ℕ → Progress → List (List Tuple) → List (List Tuple) → Passed
made_by nodes node n i input w progress lefts rights =
    pass_part n i node.role node.app_windows input w progress
    (unify_of (node_at nodes node.left).role lefts) (unify_of (node_at nodes node.right).role rights)

-- the same for an inner operator of a kind
abbrev pub inner_of : Kind → List Node → Node → ℕ → ℕ → ℕ → Progress → List (List Tuple) → List (List Tuple) → Passed
inner_of kind nodes node n i w progress lefts rights =
    gather kind node.app_windows w progress (cut_bag n i (unify_of (node_at nodes node.left).role lefts))
    (cut_bag n i (cond (has_right kind) (unify_of (node_at nodes node.right).role rights) []))

-- what a partition of a job's operator makes of them
abbrev pub made_of : Job → ℕ → ℕ → ℕ → Progress → List (List Tuple) → List (List Tuple) → Passed
made_of job o i w progress lefts rights =
    made_by job.flow.nodes (node_at job.flow.nodes o) (in_force job o w) i (input_at job.flow o) w progress lefts rights

-- the sink has no blocks, and another operator those of its rows
abbrev pub HasBlocks : CutPlan → Role → ℕ → List Tuple → List Block → Type 0
HasBlocks plan (Input kind file per_window) w rows blocks = (blocks ≡ blocks_of plan w rows) × SpellWindow plan w blocks rows
HasBlocks plan (Inner kind) w rows blocks = (blocks ≡ blocks_of plan w rows) × SpellWindow plan w blocks rows
HasBlocks plan Sink w rows blocks = blocks ≡ []

-- what is carried on, the rows and their blocks are those of what was made
pub record IsMade (job : Job) (o w : ℕ) (passed : Passed) (progress : Progress) (rows : List Tuple) (blocks : List Block) : Type 0 where
  -- what is carried on
  pub progress_is : progress ≡ passed.progress
  -- the rows
  pub rows_are : rows ≡ passed.rows
  -- the rows' blocks
  pub blocks_are : HasBlocks (plan_in job) (node_at job.flow.nodes o).role w rows blocks

-- they are those of the partition in that window of the one pass; the sink's rows are all that reaches it
pub record IsPart (job : Job) (o i w : ℕ) (progress : Progress) (rows : List Tuple) (blocks : List Block) : Type 0 where
  -- its cut of what the operator carries on
  pub progress_is : progress ≡ part_progress job.flow (in_force job o w) i w o
  -- what it gives
  pub rows_are : rows ≡ part_rows job.flow (in_force job o w) i w o
  -- of the sink all
  pub whole : IsTrue (is_sink (node_at job.flow.nodes o).role) → rows ≡ rows_at job.flow w o
  -- the rows' blocks
  pub blocks_are : HasBlocks (plan_in job) (node_at job.flow.nodes o).role w rows blocks

-- what comes of a source is too large before it is unified, or what is gathered of it
pub record IsLargePort (role : Role) (n i : ℕ) (gathered : List Tuple) (bags : List (List Tuple)) : Type 0 where
  -- all that comes, what is kept of it, or what is gathered
  pub is :
      IsLarge tuple_key (merge_bags bags)
      ⊎ (IsLarge tuple_key (unify_of role bags) ⊎ IsLarge tuple_key (bag_of (gathered ++ cut_bag n i (unify_of role bags))))

-- what comes on a port of an operator is too large, or what is carried on or given
pub record IsLargeMade (nodes : List Node) (node : Node) (n i : ℕ) (progress : Progress)
    (lefts rights : List (List Tuple)) (made : Passed) : Type 0 where
  -- on the left port, on the right one, what is carried on, or the rows
  pub is :
      IsLargePort (node_at nodes node.left).role n i progress.left lefts
      ⊎ (IsLargePort (node_at nodes node.right).role n i progress.right rights
      ⊎ (IsLargeProgress made.progress ⊎ IsLarge tuple_key made.rows))

-- so it is for a partition of a job's operator
abbrev pub IsLargePart : Job → ℕ → ℕ → ℕ → Progress → List (List Tuple) → List (List Tuple) → Type 0
IsLargePart job o i w progress lefts rights =
    IsLargeMade job.flow.nodes (node_at job.flow.nodes o) (in_force job o w) i progress lefts rights
    (made_of job o i w progress lefts rights)
