-- The one pass: what an application gives, window after window, with every operator whole.
--
-- Partitions, blocks, checkpoints, threads and failures don't occur here. Windows count from 1, and
-- operators go by their number in the file, from 0.
--     progress_after dataflow w o    what operator o carries from window w to the next
--     rows_at dataflow w o           what operator o gives in window w
--     windows dataflow               how many windows there are
--     mean dataflow                  the sink's rows of each window
use Rattle.std.specs.Prelude.{ℕ, zero, suc, ◌+◌, ◌/◌, ◌%◌, ◌==◌, max, Bool, true, false, cond, List, [], ◌∷◌, ◌++◌, length, Option, Some, None, slice_get, take, count_by}
use Rattle.apx_tuple.specs.declared.kind.Kind.{Kind}
use Rattle.apx_tuple.specs.declared.progress.Progress.{Progress}
use Rattle.apx_tuple.specs.declared.tuple.Tuple.{Tuple}
use Rattle.apx_tuple.specs.Kind.{has_right}
use Rattle.apx_tuple.specs.Tuple.{bag_of}
use Rattle.apx_rules.specs.Step.{step}
use Rattle.apx_pass.specs.Graph as graph
use Rattle.apx_pass.specs.Graph.{Role, Node, node_at, is_input, is_sink}
use Rattle.apx_pass.specs.Groups.{Input, groups, window_bag}

-- an application with what its inputs read, in the order of the file
pub record Dataflow : Type 0 where
  -- the operators
  pub nodes : List Node
  -- what each input operator reads
  pub inputs : List Input

-- what an operator carries at the start: nothing
abbrev pub at_start : Progress
at_start = record { state = []; left = []; right = [] }

-- what an operator carries on from a window, and what it gives in it
pub record Passed : Type 0 where
  -- what it carries on
  pub progress : Progress
  -- what it gives
  pub rows : List Tuple

-- An inner operator gathers what comes. At each window that is a multiple of `app_windows` it steps over
-- all that came since the last one; at the others it gives nothing.
unfoldable pub gather : Kind → ℕ → ℕ → Progress → List Tuple → List Tuple → Passed
gather kind app_windows w progress left right =
    let l = bag_of (progress.left ++ left) in
    let r = bag_of (progress.right ++ right) in
    let stepped = step kind (w / app_windows) progress.state l r in
    cond (w % app_windows == 0)
    (record { progress = record { state = stepped.state; left = []; right = [] }; rows = stepped.rows })
    (record { progress = record { state = progress.state; left = l; right = r }; rows = [] })

-- how many of the operators before number o are inputs
unfoldable pub inputs_before : List Node → ℕ → ℕ
inputs_before nodes o = count_by (λ node. is_input node.role) (take o nodes)

-- what an operator reads, where it is an input
unfoldable pub input_at : Dataflow → ℕ → Option Input
input_at flow o = slice_get flow.inputs (inputs_before flow.nodes o)

-- what an input gives in window w, and nothing where there is no input
abbrev pub rows_of_input : Option Input → ℕ → List Tuple
rows_of_input None w = []
rows_of_input (Some input) w = window_bag input w

-- an input gives its window, and the sink what reaches it; they carry nothing
unfoldable pub pass_role : Role → ℕ → Option Input → ℕ → Progress → List Tuple → List Tuple → Passed
pass_role (graph.Input kind file per_window) app_windows input w progress left right =
    record { progress = at_start; rows = rows_of_input input w }
pass_role (graph.Inner kind) app_windows input w progress left right =
    gather kind app_windows w progress left (cond (has_right kind) right [])
pass_role graph.Sink app_windows input w progress left right = record { progress = at_start; rows = left }

-- what an operator makes of a window, by its role
abbrev pub pass_node : Node → Option Input → ℕ → Progress → List Tuple → List Tuple → Passed
pass_node node = pass_role node.role node.app_windows

-- What operator o makes of window w, where `before` is what each operator carries into it, seen
-- through so many streams. No stream leads back, so as many as there are operators reach the inputs.
unfoldable pub pass_within : ℕ → Dataflow → ℕ → (ℕ → Progress) → ℕ → Passed
pass_within zero flow w before o = record { progress = at_start; rows = [] }
pass_within (suc streams) flow w before o =
    let node = node_at flow.nodes o in
    pass_node node (input_at flow o) w (before o)
    (pass_within streams flow w before node.left).rows
    (pass_within streams flow w before node.right).rows

-- what operator o makes of window w, from what each operator carries into it
abbrev pub pass_window : Dataflow → ℕ → (ℕ → Progress) → ℕ → Passed
pass_window flow = pass_within (length flow.nodes) flow

-- what operator o carries from window w to the next
unfoldable pub progress_after : Dataflow → ℕ → ℕ → Progress
progress_after flow zero o = at_start
progress_after flow (suc w) o = (pass_window flow (suc w) (progress_after flow w) o).progress

-- what operator o gives in window w
unfoldable pub rows_at : Dataflow → ℕ → ℕ → List Tuple
rows_at flow zero o = []
rows_at flow (suc w) o = (pass_window flow (suc w) (progress_after flow w) o).rows

-- the greatest number of windows of any input
unfoldable pub windows_of : List Input → ℕ
windows_of [] = 0
windows_of (input ∷ inputs) = max (groups input) (windows_of inputs)

-- how many windows a dataflow has
abbrev pub windows : Dataflow → ℕ
windows flow = windows_of flow.inputs

-- the number of the first sink
unfoldable pub sink_of : List Node → ℕ
sink_of [] = 0
sink_of (node ∷ nodes) = cond (is_sink node.role) 0 (1 + sink_of nodes)

-- the sink's rows of the windows 1 to w
unfoldable pub mean_up_to : Dataflow → ℕ → List (List Tuple)
mean_up_to flow zero = []
mean_up_to flow (suc w) = mean_up_to flow w ++ rows_at flow (suc w) (sink_of flow.nodes) ∷ []

-- the sink's rows of each window
abbrev pub mean : Dataflow → List (List Tuple)
mean flow = mean_up_to flow (windows flow)
