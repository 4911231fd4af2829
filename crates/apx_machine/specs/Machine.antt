-- What contracts see of a machine: the plan that it runs, and its state.
use Rattle.std.specs.Prelude.{ℕ, Bool, List, Option}
use Rattle.apx_history.specs.declared.Line.{Line}
use Rattle.apx_history.specs.Plan.{Operator, Plan}
use Rattle.apx_history.specs.State.{Oper, State}

-- a plan, and a state of it
pub record Running : Type 0 where
  -- the plan
  pub plan : Plan
  -- the state
  pub state : State

-- the plan with these parts
abbrev pub plan_of : ℕ → ℕ → ℕ → List Operator → List Line → Plan
plan_of windows every sink operators lines =
    record { windows = windows; every = every; sink = sink; operators = operators; lines = lines }

-- the state with these parts
abbrev pub state_of : List Oper → ℕ → ℕ → List Bool → Bool → Option ℕ → State
state_of ops committed stored left ended fault =
    record { ops = ops; committed = committed; stored = stored; left = left; ended = ended; fault = fault }
