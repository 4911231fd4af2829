-- Laws over the partitions of an operator: what they keep, make and give together is what the whole does. Each holds for every
-- number of partitions from 1 on.
use Rattle.std.specs.Prelude.{◌≡◌, ℕ, suc, ◌≤◌, ◌<◌, List, length}
use Rattle.std.specs.List.Sorted.{IsStrictlySortedBy}
use Rattle.std.specs.Map.{keys_of}
use Rattle.apx_order.specs.Sorted.{IsAscending}
use Rattle.apx_tuple.specs.declared.kind.Kind.{Kind}
use Rattle.apx_tuple.specs.declared.progress.Progress.{Progress}
use Rattle.apx_tuple.specs.declared.tuple.Tuple.{Tuple}
use Rattle.apx_tuple.specs.State.{Pair}
use Rattle.apx_tuple.specs.Tuple.{key_order, tuple_order}
use Rattle.apx_codec.specs.KeyNumber.{owner_of}
use Rattle.apx_rules.specs.Parts.{cut_bag, cut_state, step_part, of_parts, merge_bags, merge_states, unify}
use Rattle.apx_rules.specs.Step.{step}
use Rattle.apx_pass.specs.Graph.{Role, Input, Inner, Sink, node_at}
use Rattle.apx_pass.specs.Order.{IsOrder}
use Rattle.apx_pass.specs.Pass.{Dataflow, Passed, gather, progress_after, rows_at}
use Rattle.apx_shares.specs.Carried.{cut_progress, merge_progress}
use Rattle.apx_shares.specs.Given.{unify_of, part_progress, part_passed, part_rows}

-- each key belongs to one of n partitions
abbrev pub IsOwner : ℕ → (List ℕ → ℕ) → Type 0
IsOwner n own = (key : List ℕ) → own key < n

-- Of one partition or more, one owns each key.
abbrev pub KeysAreOwned : Type 0
KeysAreOwned = (n : ℕ) → 1 ≤ n → IsOwner n (owner_of n)

-- The state of a partition's step is its cut of the state of the whole step.
abbrev pub PartsKeepCuts : Type 0
PartsKeepCuts = (n i : ℕ) (kind : Kind) (window : ℕ) (state : List Pair) (left right : List Tuple) →
    (step_part n i kind window state left right).state ≡ cut_state n i (step kind window state left right).state

-- The rows of the partitions' steps, unified, are the rows of the whole step.
abbrev pub PartsUnify : Type 0
PartsUnify = (n : ℕ) → 1 ≤ n → (kind : Kind) (window : ℕ) (state : List Pair) (left right : List Tuple) →
    unify kind (of_parts n (λ i. (step_part n i kind window state left right).rows)) ≡ (step kind window state left right).rows

-- All cuts of a bag, merged, are the bag.
abbrev pub BagsMerge : Type 0
BagsMerge = (n : ℕ) → 1 ≤ n → (bag : List Tuple) → IsAscending tuple_order bag → merge_bags (of_parts n (λ i. cut_bag n i bag)) ≡ bag

-- All cuts of a state, merged, are the state.
abbrev pub StatesMerge : Type 0
StatesMerge = (n : ℕ) → 1 ≤ n → (state : List Pair) → IsStrictlySortedBy key_order (keys_of state) →
    merge_states (of_parts n (λ i. cut_state n i state)) ≡ state

-- what is carried has its pairs and its tuples in order
pub record IsOrdered (progress : Progress) : Type 0 where
  -- the keys ascend, each once
  pub state : IsStrictlySortedBy key_order (keys_of progress.state)
  -- what was gathered on the left port ascends
  pub left : IsAscending tuple_order progress.left
  -- and on the right port
  pub right : IsAscending tuple_order progress.right

-- What an operator carries from window to window is in order.
abbrev pub CarriedIsOrdered : Type 0
CarriedIsOrdered = (flow : Dataflow) (w o : ℕ) → IsOrdered (progress_after flow w o)

-- All cuts of what is carried, merged, are what is carried.
abbrev pub CutsMerge : Type 0
CutsMerge = (n : ℕ) → 1 ≤ n → (progress : Progress) → IsOrdered progress →
    merge_progress (of_parts n (λ i. cut_progress n i progress)) ≡ progress

-- To cut the merged cuts anew is to cut what is carried.
abbrev pub SplitsAreCuts : Type 0
SplitsAreCuts = (n : ℕ) → 1 ≤ n → (m i : ℕ) (progress : Progress) → IsOrdered progress →
    cut_progress m i (merge_progress (of_parts n (λ j. cut_progress n j progress))) ≡ cut_progress m i progress

-- what partition i of n gathers and makes of its cuts
abbrev pub gather_part : ℕ → ℕ → Kind → ℕ → ℕ → Progress → List Tuple → List Tuple → Passed
gather_part n i kind app_windows w progress left right =
    gather kind app_windows w (cut_progress n i progress) (cut_bag n i left) (cut_bag n i right)

-- What a partition carries on is its cut of what the whole carries on, at each window of a group.
abbrev pub GatheredKeepCuts : Type 0
GatheredKeepCuts = (n i : ℕ) (kind : Kind) (app_windows w : ℕ) (progress : Progress) (left right : List Tuple) →
    (gather_part n i kind app_windows w progress left right).progress
    ≡ cut_progress n i (gather kind app_windows w progress left right).progress

-- What the partitions give, unified, is what the whole gives, at each window of a group.
abbrev pub GatheredUnify : Type 0
GatheredUnify = (n : ℕ) → 1 ≤ n → (kind : Kind) (app_windows w : ℕ) (progress : Progress) (left right : List Tuple) →
    unify kind (of_parts n (λ i. (gather_part n i kind app_windows w progress left right).rows))
    ≡ (gather kind app_windows w progress left right).rows

-- an input and the sink have one partition
unfoldable pub HasParts : Role → ℕ → Type 0
HasParts (Input kind file per_window) n = n ≡ 1
HasParts (Inner kind) n = 1 ≤ n
HasParts Sink n = n ≡ 1

-- From what a partition carries into a window comes what it carries on, in each graph that has an order.
abbrev pub PartsCarryOn : Type 0
PartsCarryOn = (flow : Dataflow) (order : List ℕ) → IsOrder flow.nodes order → (n i w o : ℕ) → o < length flow.nodes →
    (part_passed flow n i (suc w) (part_progress flow n i w o) o).progress ≡ part_progress flow n i (suc w) o

-- What the partitions of an operator give in a window, as one, is what the operator gives.
abbrev pub PartsGiveAll : Type 0
PartsGiveAll = (flow : Dataflow) (order : List ℕ) → IsOrder flow.nodes order → (n w o : ℕ) → o < length flow.nodes →
    HasParts (node_at flow.nodes o).role n →
    unify_of (node_at flow.nodes o).role (of_parts n (λ i. part_rows flow n i w o)) ≡ rows_at flow w o
