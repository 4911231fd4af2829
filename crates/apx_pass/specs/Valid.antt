-- Graphs that a run accepts.
use Rattle.std.specs.Prelude.{ℕ, ◌<◌, ◌≤◌, List, length, ⊤}
use Rattle.apx_pass.specs.Graph.{Role, Input, Inner, Sink, Node, node_at}
use Rattle.apx_pass.specs.Pass.{sink_of}

-- an input has 1 to 1,000,000 lines to a window
unfoldable pub IsValidRole : Role → Type 0
IsValidRole (Input kind file per_window) = (1 ≤ per_window) × (per_window ≤ 1000000)
IsValidRole (Inner kind) = ⊤
IsValidRole Sink = ⊤

-- an operator has 1 to 8 partitions, and steps once for each 1 to 20,000 windows
pub record IsValidNode (node : Node) : Type 0 where
  -- it is a valid input, where it is one
  pub role : IsValidRole node.role
  -- it has a partition
  pub some_partitions : 1 ≤ node.partitions
  -- and at most 8
  pub few_partitions : node.partitions ≤ 8
  -- it steps after a window
  pub some_windows : 1 ≤ node.app_windows
  -- and at the latest after 20,000
  pub few_windows : node.app_windows ≤ 20000

-- there are up to 16 operators, each of them valid, and a sink among them
pub record IsValid (nodes : List Node) : Type 0 where
  -- there are at most 16 operators
  pub few : length nodes ≤ 16
  -- each operator is valid
  pub nodes_valid : (operator : ℕ) → operator < length nodes → IsValidNode (node_at nodes operator)
  -- there is a sink
  pub sink : sink_of nodes < length nodes
