-- What a partition makes of a window, and its blocks. Operators and partitions count from 0, and windows from 1.
--     unify_of role bags             what the partitions of an operator give, as one
--     pass_part                      what a partition makes of a window, from what its sources give
--     part_progress flow n i w o     what partition i of n of operator o carries from window w to the next
--     part_rows flow n i w o         what it gives in window w
--     part_blocks plan flow n i w o  the blocks of these rows
use Rattle.std.specs.Prelude.{ℕ, zero, suc, List, [], cond, Option}
use Rattle.apx_tuple.specs.declared.progress.Progress.{Progress}
use Rattle.apx_tuple.specs.declared.tuple.Tuple.{Tuple}
use Rattle.apx_tuple.specs.Kind.{has_right}
use Rattle.apx_rules.specs.Parts.{cut_bag, merge_bags, unify}
use Rattle.apx_pass.specs.Graph as graph
use Rattle.apx_pass.specs.Graph.{Role, Node, node_at}
use Rattle.apx_pass.specs.Groups.{Input}
use Rattle.apx_pass.specs.Pass.{Dataflow, Passed, at_start, gather, input_at, rows_of_input, progress_after, rows_at}
use Rattle.apx_list.specs.declared.block.Block.{Block}
use Rattle.apx_list.specs.declared.plan.CutPlan.{CutPlan}
use Rattle.apx_list.specs.Cut.{blocks_of}
use Rattle.apx_shares.specs.Carried.{cut_progress}

-- what the partitions of an operator give, as one bag
unfoldable pub unify_of : Role → List (List Tuple) → List Tuple
unify_of (graph.Input kind file per_window) bags = merge_bags bags
unify_of (graph.Inner kind) bags = unify kind bags
unify_of graph.Sink bags = merge_bags bags

-- What partition i of n makes of window w. It gathers, of all that comes on its ports, the tuples that it owns; an input gives
-- its window, and the sink all that reaches it.
unfoldable pub pass_part : ℕ → ℕ → Role → ℕ → Option Input → ℕ → Progress → List Tuple → List Tuple → Passed
pass_part n i (graph.Input kind file per_window) app_windows input w progress left right =
    record { progress = at_start; rows = rows_of_input input w }
pass_part n i (graph.Inner kind) app_windows input w progress left right =
    gather kind app_windows w progress (cut_bag n i left) (cut_bag n i (cond (has_right kind) right []))
pass_part n i graph.Sink app_windows input w progress left right = record { progress = at_start; rows = left }

-- what the partition carries from window w to the next: its cut of what the operator carries
abbrev pub part_progress : Dataflow → ℕ → ℕ → ℕ → ℕ → Progress
part_progress flow n i w o = cut_progress n i (progress_after flow w o)

-- what the partition makes of window w from what it carries into it
abbrev pub part_passed : Dataflow → ℕ → ℕ → ℕ → Progress → ℕ → Passed
part_passed flow n i w progress o =
    let node = node_at flow.nodes o in
    pass_part n i node.role node.app_windows (input_at flow o) w progress (rows_at flow w node.left) (rows_at flow w node.right)

-- what the partition gives in window w
unfoldable pub part_rows : Dataflow → ℕ → ℕ → ℕ → ℕ → List Tuple
part_rows flow n i zero o = []
part_rows flow n i (suc w) o = (part_passed flow n i (suc w) (part_progress flow n i w o) o).rows

-- the blocks of what the partition gives in window w
abbrev pub part_blocks : CutPlan → Dataflow → ℕ → ℕ → ℕ → ℕ → List Block
part_blocks plan flow n i w o = blocks_of plan w (part_rows flow n i w o)
