-- Applications as plain records: a graph is its list of operators, in the order of the file.
use Rattle.std.specs.Prelude.{ℕ, Bool, true, false, List, [], slice_index_or}
use Rattle.apx_tuple.specs.declared.kind.Kind.{Kind}
use Rattle.apx_tuple.specs.declared.kind.InputKind.{InputKind}

-- an input reads the lines of a file, `per_window` to a window; the sink stores what reaches it
pub data Role : Type 0 where
  Input : (kind : InputKind) (file : List ℕ) (per_window : ℕ) → Role
  Inner : (kind : Kind) → Role
  Sink : Role

-- An operator. `left` and `right` are the numbers of the operators that its ports read, its own number
-- where it has no such port. It steps once for each `app_windows` windows, over all that came in them.
pub record Node : Type 0 where
  -- its name
  pub name : List ℕ
  -- what it does
  pub role : Role
  -- how many partitions it has
  pub partitions : ℕ
  -- the operator that the left port reads
  pub left : ℕ
  -- the operator that the right port reads
  pub right : ℕ
  -- how many windows go into one step
  pub app_windows : ℕ

-- the operator with a number, from 0; past the last one, a sink without a name
abbrev pub node_at : List Node → ℕ → Node
node_at nodes number =
    slice_index_or nodes number
    (record { name = []; role = Sink; partitions = 1; left = number; right = number; app_windows = 1 })

-- whether an operator is an input
abbrev pub is_input : Role → Bool
is_input (Input kind file per_window) = true
is_input (Inner kind) = false
is_input Sink = false

-- whether it is the sink
abbrev pub is_sink : Role → Bool
is_sink (Input kind file per_window) = false
is_sink (Inner kind) = false
is_sink Sink = true
