-- What reaches an operator in a window: for each partition of a source, the blocks of what it gives.
--     plan_in job                      how the windows of a job are cut into blocks
--     AreWindows plan w lists bags     each list has all blocks of the window, and these are its tuples
--     IsFed job w lists source         they are those of each partition of the source, with what it gives in the window
use Rattle.std.specs.Prelude.{ℕ, List, [], ◌∷◌, map, length, ⊤}
use Rattle.apx_tuple.specs.declared.tuple.Tuple.{Tuple}
use Rattle.apx_list.specs.declared.block.Block.{Block}
use Rattle.apx_list.specs.declared.plan.CutPlan.{CutPlan}
use Rattle.apx_list.specs.Window.{SpellWindow}
use Rattle.apx_pass.specs.Job.{Job}
use Rattle.apx_job.specs.Job.{in_force}
use Rattle.apx_pass.specs.Graph.{node_at}
use Rattle.apx_pass.specs.Order.{OfPorts}
use Rattle.apx_pass.specs.Pass.{windows}
use Rattle.apx_rules.specs.Parts.{of_parts}
use Rattle.apx_shares.specs.Given.{part_rows}

-- how the windows of a job are cut into blocks
abbrev pub plan_in : Job → CutPlan
plan_in job = record { base = job.settings.base; every = job.settings.every; windows = windows job.flow; size = job.settings.block }

-- each of the lists has all blocks of the window, and these are its tuples
abbrev pub AreWindows : CutPlan → ℕ → List (List Block) → List (List Tuple) → Type 0
AreWindows plan w [] [] = ⊤
AreWindows plan w [] (bag ∷ bags) = ⊥
AreWindows plan w (blocks ∷ lists) [] = ⊥
AreWindows plan w (blocks ∷ lists) (bag ∷ bags) = SpellWindow plan w blocks bag × AreWindows plan w lists bags

-- what the partitions of an operator give in a window, by partition
abbrev pub given_in : Job → ℕ → ℕ → List (List Tuple)
given_in job w o = of_parts (in_force job o w) (λ i. part_rows job.flow (in_force job o w) i w o)

-- the lists have the blocks of what each partition of the source gives in the window
abbrev pub IsFed : Job → ℕ → List (List Block) → ℕ → Type 0
IsFed job w lists source = AreWindows (plan_in job) w lists (given_in job w source)

-- so have the lists of each port that the operator has
abbrev pub IsFedAll : Job → ℕ → ℕ → List (List Block) → List (List Block) → Type 0
IsFedAll job o w left right =
    let node = node_at job.flow.nodes o in
    OfPorts node.role (IsFed job w left node.left) (IsFed job w right node.right)
