-- What each graph keeps.
use Rattle.std.specs.Prelude.{◌≡◌, ◌≢◌, ℕ, ◌<◌, ◌≤◌, ◌⊎◌, List, length}
use Rattle.apx_tuple.specs.declared.kind.Kind.{Kind}
use Rattle.apx_tuple.specs.declared.kind.Kind.TheVariants as kinds
use Rattle.apx_pass.specs.Graph.{Role, Input, Inner, Sink, Node, node_at}
use Rattle.apx_dag.specs.Graph.{sources_in}
use Rattle.apx_dag.specs.Order.{IsWithin, Feeds, Reaches}

-- the numbers of a kind are in their ranges
abbrev pub IsKind : Kind → Type 0
IsKind (kinds.Prefix len) = len ≤ 1024
IsKind (kinds.Tumble every) = (1 ≤ every) × (every ≤ 20000)
IsKind (kinds.Top k) = (1 ≤ k) × (k ≤ 1000)
IsKind _ = Unit {0}

-- the numbers of a role are in their ranges
abbrev pub IsRole : Role → Type 0
IsRole (Input kind file per_window) = (1 ≤ per_window) × (per_window ≤ 1000000)
IsRole (Inner kind) = IsKind kind
IsRole Sink = Unit {0}

-- the role of an input
abbrev pub IsInputRole : Role → Type 0
IsInputRole (Input kind file per_window) = Unit {0}
IsInputRole (Inner kind) = ⊥
IsInputRole Sink = ⊥

-- an input or the sink
abbrev pub IsEndpoint : Role → Type 0
IsEndpoint (Input kind file per_window) = Unit {0}
IsEndpoint (Inner kind) = ⊥
IsEndpoint Sink = Unit {0}

-- an operator's numbers are in their ranges, and an input or the sink has one partition and gathers
-- one window
pub record IsNode (node : Node) : Type 0 where
  -- the numbers of its role are in their ranges
  pub role : IsRole node.role
  -- it has 1 to 8 partitions
  pub partitions : (1 ≤ node.partitions) × (node.partitions ≤ 8)
  -- it gathers 1 to 20,000 windows
  pub app_windows : (1 ≤ node.app_windows) × (node.app_windows ≤ 20000)
  -- an input or the sink has one partition and gathers one window
  pub alone : IsEndpoint node.role → (node.partitions ≡ 1) × (node.app_windows ≡ 1)

-- an input, or one that is reached from an input
abbrev pub IsFed : List Node → ℕ → Type 0
IsFed nodes i =
    IsInputRole (node_at nodes i).role
    ⊎ ((a : ℕ) × (a < length nodes) × IsInputRole (node_at nodes a).role × Reaches (sources_in nodes) a i)

-- Each source is an operator that isn't the sink, there is one sink, and each operator that isn't an
-- input is reached from one.
pub record IsGraph (nodes : List Node) : Type 0 where
  -- each operator's numbers are in their ranges
  pub each : (i : ℕ) → i < length nodes → IsNode (node_at nodes i)
  -- each source is there
  pub sources : IsWithin (sources_in nodes)
  -- no operator reads the sink
  pub outputs : (a b : ℕ) → Feeds (sources_in nodes) a b → (node_at nodes a).role ≢ Sink
  -- there is one sink
  pub sink : (s : ℕ) × (s < length nodes) × ((node_at nodes s).role ≡ Sink)
      × ((j : ℕ) → j < length nodes → (node_at nodes j).role ≡ Sink → j ≡ s)
  -- each operator is an input, or reached from one
  pub fed : (i : ℕ) → i < length nodes → IsFed nodes i
