-- A pass that has gone through some windows.
use Rattle.std.specs.Prelude.{◌≡◌, ℕ, ◌<◌, List, length, map, slice_index}
use Rattle.apx_tuple.specs.declared.progress.Progress.{Progress}
use Rattle.apx_pass.specs.Graph.{Node}
use Rattle.apx_pass.specs.Groups.{Input}
use Rattle.apx_pass.specs.Order.{IsOrder}
use Rattle.apx_pass.specs.Pass.{Dataflow, progress_after, sink_of}
use Rattle.apx_pass.specs.Valid.{IsValid}

-- the dataflow, and how many windows were passed
pub record Passing : Type 0 where
  -- the dataflow
  pub flow : Dataflow
  -- how many windows were passed
  pub passed : ℕ

-- what is kept, in an order of the operators: where the sink stands, and what each carries on
pub record IsPassing (passing : Passing) (order : List ℕ) (sink : ℕ) (progress : List Progress) : Type 0 where
  -- each operator stands behind those that it reads
  pub ordered : IsOrder passing.flow.nodes order
  -- the graph is valid
  pub valid : IsValid passing.flow.nodes
  -- the sink has a place in the order
  pub sink_within : sink < length order
  -- and stands there
  pub sink_is : slice_index order sink ≡ sink_of passing.flow.nodes
  -- each operator carries on what it does after the windows that were passed
  pub carried : progress ≡ map (progress_after passing.flow passing.passed) order

-- the dataflow of these operators and inputs
abbrev pub dataflow_of : List Node → List Input → Dataflow
dataflow_of nodes inputs = record { nodes = nodes; inputs = inputs }
