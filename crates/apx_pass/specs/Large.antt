-- When a pass is too large: some bag or state that it names has no room in a bag or a state.
use Rattle.std.specs.Prelude.{ℕ, suc, ◌<◌, ◌⊎◌, ◌++◌, List, [], length, cond}
use Rattle.apx_tuple.specs.declared.progress.Progress.{Progress}
use Rattle.apx_tuple.specs.declared.tuple.Tuple.{Tuple}
use Rattle.apx_tuple.specs.Kind.{has_right}
use Rattle.apx_tuple.specs.Progress.{IsLargeProgress}
use Rattle.apx_tuple.specs.Size.{IsLarge}
use Rattle.apx_tuple.specs.Tuple.{tuple_key, bag_of}
use Rattle.apx_pass.specs.Graph.{Role, Input, Inner, Sink, node_at}
use Rattle.apx_pass.specs.Pass.{Passed, Dataflow, pass_window, progress_after, rows_at, windows}

-- what came on one of an operator's ports since its last step is too large, or what it carries on, or its rows
pub record IsLargePassed (progress : Progress) (left right : List Tuple) (passed : Passed) : Type 0 where
  -- which of the four it is: the left bag, the right one, what is carried on, the rows
  pub is :
      IsLarge tuple_key (bag_of (progress.left ++ left))
      ⊎ (IsLarge tuple_key (bag_of (progress.right ++ right))
      ⊎ (IsLargeProgress passed.progress ⊎ IsLarge tuple_key passed.rows))

-- what comes on the right port, where there is one
unfoldable pub right_came : Role → List Tuple → List Tuple
right_came (Inner kind) rows = cond (has_right kind) rows []
right_came (Input kind file per_window) rows = []
right_came Sink rows = []

-- some operator of the dataflow names what is too large in some window of it
pub record IsLargeDataflow (flow : Dataflow) : Type 0 where
  -- the windows before that one
  pub passed : ℕ
  -- that one is a window of the dataflow
  pub within : passed < windows flow
  -- the number of the operator
  pub operator : ℕ
  -- there is an operator with the number
  pub there : operator < length flow.nodes
  -- it names what is too large there
  pub is :
      let node = node_at flow.nodes operator in
      IsLargePassed (progress_after flow passed operator)
      (rows_at flow (suc passed) node.left)
      (right_came node.role (rows_at flow (suc passed) node.right))
      (pass_window flow (suc passed) (progress_after flow passed) operator)
