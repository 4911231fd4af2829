-- What comes on the ports of an operator in a window: what each partition of the operator that is read gives.
use Rattle.std.specs.Prelude.{ℕ, Bool, true, false, List, [], cond}
use Rattle.apx_tuple.specs.declared.tuple.Tuple.{Tuple}
use Rattle.apx_tuple.specs.Kind.{has_right}
use Rattle.apx_pass.specs.Job.{Job}
use Rattle.apx_part.specs.Fed.{given_in}
use Rattle.apx_pass.specs.Graph.{Role, Input, Inner, Sink, node_at}

-- whether an operator of the role has a left port
abbrev pub reads_left : Role → Bool
reads_left (Input kind file per_window) = false
reads_left (Inner kind) = true
reads_left Sink = true

-- and whether it has a right one
abbrev pub reads_right : Role → Bool
reads_right (Input kind file per_window) = false
reads_right (Inner kind) = has_right kind
reads_right Sink = false

-- what comes on the left port of operator o in window w, by partition of the operator that it reads
abbrev pub came_left : Job → ℕ → ℕ → List (List Tuple)
came_left job w o =
    let node = node_at job.flow.nodes o in
    cond (reads_left node.role) (given_in job w node.left) []

-- and on its right port
abbrev pub came_right : Job → ℕ → ℕ → List (List Tuple)
came_right job w o =
    let node = node_at job.flow.nodes o in
    cond (reads_right node.role) (given_in job w node.right) []
