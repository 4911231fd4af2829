-- What comes to an operator in a window, and what it makes of it.
use Rattle.std.specs.Prelude.{◌≡◌, ℕ, List, ◌++◌}
use Rattle.std.specs.Prelude.{◌⊎◌}
use Rattle.apx_tuple.specs.Size.{IsLarge}
use Rattle.apx_tuple.specs.State.{pair_key}
use Rattle.apx_tuple.specs.Tuple.{tuple_key}
use Rattle.apx_rules.specs.Step.{Stepped}
use Rattle.apx_pass.specs.Graph.{Role, Input, Inner, Sink, Node}
use Rattle.apx_pass.specs.Order.{OfPorts}
use Rattle.apx_pass.specs.Pass.{Passed}
use Rattle.apx_tuple.specs.declared.progress.Progress.{Progress}
use Rattle.apx_tuple.specs.declared.tuple.Tuple.{Tuple}
use Rattle.apx_tuple.specs.Tuple.{bag_of}

-- what an operator carries on from a window at which it does not step
abbrev pub carry : Progress → List Tuple → List Tuple → Progress
carry before left right = record { state = before.state; left = bag_of (before.left ++ left); right = bag_of (before.right ++ right) }

-- what an operator carries on and gives, in two parts
abbrev pub IsPassed : Progress → List Tuple → Passed → Type 0
IsPassed progress rows passed = (progress ≡ passed.progress) × (rows ≡ passed.rows)

-- the state or the rows of a step are too large
abbrev pub IsLargeStep : Stepped → Type 0
IsLargeStep s = IsLarge pair_key s.state ⊎ IsLarge tuple_key s.rows

-- an inner operator's role
abbrev pub IsInner : Role → Type 0
IsInner (Input kind file per_window) = ⊥
IsInner (Inner kind) = Unit {0}
IsInner Sink = ⊥

-- the bags that come on a node's ports are those that the operators which it reads give
abbrev pub AreCome : (ℕ → List Tuple) → Node → List Tuple → List Tuple → Type 0
AreCome gives node left right = OfPorts node.role (left ≡ gives node.left) (right ≡ gives node.right)
