-- What a job says of a run: the plan of its histories, the epochs of its operators, and the lines of its script that it refuses.
--
-- Operators go by their number in the file, from 0, and windows count from 1. An epoch of an operator is the windows
-- between two of its boundaries, which are 0 and the windows of its repartitions.
--     plan_of job             what the histories of a run need of it
--     boundary_of job o w     the boundary of the epoch of operator o that holds window w
--     in_force job o w        how many partitions operator o has in that epoch
--     refused_line job        the first line that the job refuses, with the reason, if there is one
use Rattle.std.specs.Prelude.{◌≡◌, ℕ, ◌%◌, ◌==◌, ◌&&◌, ◌||◌, ◌≤◌, not, nat_le, nat_lt, Bool, true, false, List, [], ◌∷◌, ◌++◌, length, map, position, Option, Some, None, unwrap_or, if◌then◌else◌}
use Rattle.std.specs.List.{list_any, range_with_len, filter}
use Rattle.std.specs.Option.{option_map, option_map_or, option_or}
use Rattle.std.specs.Str.{bytes_eq}
use Rattle.apx_history.specs.declared.Point.TheVariants as points
use Rattle.apx_history.specs.declared.Point as point
use Rattle.apx_history.specs.declared.Act.TheVariants as acts
use Rattle.apx_history.specs.declared.Act as act
use Rattle.apx_history.specs.declared.Line as line
use Rattle.apx_history.specs.Plan as history
use Rattle.apx_history.specs.Plan.{Plan}
use Rattle.apx_pass.specs.Graph.{Node, node_at, is_input, is_sink}
use Rattle.apx_pass.specs.Order.{sources, is_below}
use Rattle.apx_pass.specs.Job.{Job}
use Rattle.apx_pass.specs.Pass.{windows, inputs_before, sink_of}
use Rattle.apx_pass.specs.Script.{Point, Before, Staged, Written, Done, Act, Kill, Repartition, Line, RefusedLine}

-- ---- what the histories of a run need

-- the operator that a command names
abbrev pub operator_of : Act → List ℕ
operator_of (Kill point window part operator) = operator
operator_of (Repartition window count operator) = operator

-- the window that it names
abbrev pub window_of : Act → ℕ
window_of (Kill point window part operator) = window
window_of (Repartition window count operator) = window

-- the number of the operator with a name, if there is one
abbrev pub number_of : List Node → List ℕ → Option ℕ
number_of nodes name = position (λ node. bytes_eq name node.name) nodes

-- a point of a window, as histories have it
abbrev pub point_in : Point → point.Point
point_in Before = points.Before
point_in Staged = points.Staged
point_in Written = points.Written
point_in Done = points.Done

-- what a command does to its operator, as histories have it
abbrev pub act_in : Act → act.Act
act_in (Kill point window part operator) = acts.Fails (point_in point) part
act_in (Repartition window count operator) = acts.Splits count

-- a command with its operator's number; one that names no operator has the number past the last
abbrev pub command_in : List Node → Line → line.Line
command_in nodes command = record {
  op = unwrap_or (number_of nodes (operator_of command.act)) (length nodes);
  window = window_of command.act;
  act = act_in command.act;
}

-- operator o with those that it reads, those downstream of it, and its number of partitions at first
abbrev pub operator_in : List Node → ℕ → history.Operator
operator_in nodes o = record {
  sources = sources nodes o;
  under = filter (λ other. is_below nodes o other) (range_with_len 0 (length nodes));
  first = (node_at nodes o).partitions;
}

-- what the histories of a run need of its job
abbrev pub plan_of : Job → Plan
plan_of job = record {
  windows = windows job.flow;
  every = job.settings.every;
  sink = sink_of job.flow.nodes;
  operators = map (operator_in job.flow.nodes) (range_with_len 0 (length job.flow.nodes));
  lines = map (command_in job.flow.nodes) job.script;
}

-- ---- epochs

-- the boundary of the epoch that holds a window
abbrev pub boundary_of : Job → ℕ → ℕ → ℕ
boundary_of job o w = history.boundary_in (map (command_in job.flow.nodes) job.script) o w

-- how many partitions an operator has in the epoch that holds a window
abbrev pub in_force : Job → ℕ → ℕ → ℕ
in_force job o w =
    history.number_in (map (command_in job.flow.nodes) job.script) o (boundary_of job o w) (node_at job.flow.nodes o).partitions

-- ---- lines that are refused

-- an earlier command repartitions the operator with this name at this window
abbrev pub splits_at : List ℕ → ℕ → Act → Bool
splits_at name w (Kill point window part operator) = false
splits_at name w (Repartition window count operator) = bytes_eq operator name && window == w

-- why a repartition of operator o is refused, if it is: its window isn't one of a checkpoint; its count isn't 1 to 8; the
-- operator is an input or the sink; an earlier line repartitions it at the same window
unfoldable pub split_reason : Job → List Line → ℕ → ℕ → ℕ → List ℕ → Option ℕ
split_reason job earlier o window count name =
    if not (window % job.settings.every == 0) then Some 5 else
    if not (nat_le 1 count && nat_le count 8) then Some 6 else
    if is_input (node_at job.flow.nodes o).role || is_sink (node_at job.flow.nodes o).role then Some 7 else
    if list_any (λ line. splits_at name window line.act) earlier then Some 8 else None

-- whether a kill waits for a window to be stored
abbrev pub is_written : Point → Bool
is_written Written = true
is_written Before = false
is_written Staged = false
is_written Done = false

-- why a command for operator o is refused, if it is; a kill is where it waits for a window to be stored that its operator doesn't store
abbrev pub act_reason : Job → List Line → ℕ → Act → Option ℕ
act_reason job earlier o (Kill point window part operator) =
    if is_written point && not (is_sink (node_at job.flow.nodes o).role) then Some 10 else None
act_reason job earlier o (Repartition window count operator) = split_reason job earlier o window count operator

-- why a command for operator o is refused, if it is: its window isn't one of the run, or for what it does
unfoldable pub named_reason : Job → List Line → Act → ℕ → Option ℕ
named_reason job earlier act o =
    if not (nat_le 1 (window_of act) && nat_le (window_of act) (windows job.flow)) then Some 4 else act_reason job earlier o act

-- why a line behind others is refused, if it is: no operator has its name, or for what it commands
unfoldable pub reason : Job → List Line → Line → Option ℕ
reason job earlier line = option_map_or (named_reason job earlier line.act) (number_of job.flow.nodes (operator_of line.act)) (Some 3)

-- a kill of a partition that isn't there at its window
abbrev pub kills_nobody : Job → ℕ → Act → Bool
kills_nobody job o (Kill point window part operator) = not (nat_lt part (in_force job o window))
kills_nobody job o (Repartition window count operator) = false

-- why a line is refused once all have their operators and windows, if it is
unfoldable pub late_reason : Job → Line → Option ℕ
late_reason job line =
    option_map_or (λ o. if kills_nobody job o line.act then Some 9 else None) (number_of job.flow.nodes (operator_of line.act)) None

-- the first of some lines that there is a reason against, where `earlier` stand before them
unfoldable pub first_refused_behind : (List Line → Line → Option ℕ) → List Line → List Line → Option RefusedLine
first_refused_behind why earlier [] = None
first_refused_behind why earlier (line ∷ lines) =
    option_or
    (option_map (λ reason. record { line = line.number; why = reason }) (why earlier line))
    (first_refused_behind why (earlier ++ line ∷ []) lines)

-- The first line that a job refuses: all are tried for the reasons 3 to 8 and 10, and then all for 9.
unfoldable pub refused_line : Job → Option RefusedLine
refused_line job =
    option_or (first_refused_behind (reason job) [] job.script) (first_refused_behind (λ earlier. late_reason job) [] job.script)

-- ---- jobs that are accepted

-- what each accepted job keeps
pub record IsJob (job : Job) : Type 0 where
  -- there is an entry for each input operator
  pub inputs : length job.flow.inputs ≡ inputs_before job.flow.nodes (length job.flow.nodes)
  -- there are at most 20,000 windows
  pub few : windows job.flow ≤ 20000
  -- no line of the script is refused
  pub script : refused_line job ≡ None
