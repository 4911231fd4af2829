-- What an operator makes of a window from all that was gathered on its ports, and what is kept of what partitions give.
use Rattle.std.specs.Prelude.{ℕ, ◌/◌, ◌%◌, ◌==◌, Bool, true, false, List, [], cond}
use Rattle.apx_tuple.specs.declared.kind.Kind.{Kind}
use Rattle.apx_tuple.specs.declared.kind.Kind.TheVariants.{Top}
use Rattle.apx_tuple.specs.declared.progress.Progress.{Progress}
use Rattle.apx_tuple.specs.declared.tuple.Tuple.{Tuple}
use Rattle.apx_tuple.specs.State.{Pair}
use Rattle.apx_pass.specs.Graph.{Role, Input, Inner, Sink}
use Rattle.apx_pass.specs.Pass.{Passed}
use Rattle.apx_rules.specs.Step.{step}
use Rattle.apx_split.specs.Kept.{kept_of}

-- at a window that ends a group the step over what was gathered, and at another that alone
unfoldable pub gathered : Kind → ℕ → ℕ → List Pair → List Tuple → List Tuple → Passed
gathered kind app_windows w state left right =
    let stepped = step kind (w / app_windows) state left right in
    cond (w % app_windows == 0)
    (record { progress = record { state = stepped.state; left = []; right = [] }; rows = stepped.rows })
    (record { progress = record { state = state; left = left; right = right }; rows = [] })

-- of all that the partitions of an operator of this role gave, what is kept
unfoldable pub kept_by : Role → List Tuple → List Tuple
kept_by (Input kind file per_window) all = all
kept_by (Inner kind) all = kept_of kind all
kept_by Sink all = all

-- whether it is chosen from once more
abbrev pub is_chosen : Role → Bool
is_chosen (Input kind file per_window) = false
is_chosen (Inner (Top k)) = true
is_chosen (Inner kind) = false
is_chosen Sink = false
