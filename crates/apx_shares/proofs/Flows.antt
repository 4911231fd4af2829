-- What the partitions of an operator carry on and give in a dataflow.
use Rattle.std.proofs.Common.{◌≡◌, ℕ, ◌+◌, ◌≤◌, ◌<◌, ◌%◌, ◌/◌, ◌==◌, zero, suc, Bool, true, false, cond, List, [], ◌∷◌, ◌++◌, length, slice_index, map, Option, Some, None, refl, sym, ap, subst, ◌∙◌}
use Rattle.std.specs.List.{filter}
use Rattle.apx_order.specs.Sorted.{sorted, IsAscending}
use Rattle.apx_order.proofs.Sorting.{sorted-ascends, sorted-of-ascending}
use Rattle.apx_codec.specs.KeyNumber.{owner_of}
use Rattle.apx_tuple.specs.declared.kind.Kind.{Kind}
use Rattle.apx_tuple.specs.declared.kind.Kind.TheVariants.{Top}
use Rattle.apx_tuple.specs.declared.progress.Progress.{Progress}
use Rattle.apx_tuple.specs.declared.tuple.Tuple.{Tuple}
use Rattle.apx_tuple.specs.Kind.{has_right}
use Rattle.apx_tuple.specs.State.{Pair}
use Rattle.apx_tuple.specs.Tuple.{bag_of, tuple_order}
use Rattle.apx_tuple.proofs.Orders.{tuple_order-exact}
use Rattle.apx_rules.specs.Parts.{cut_bag, of_parts, merge_bags, unify}
use Rattle.apx_rules.specs.Step.{step, keyed_step, outcome_at, step_keys, rank_order}
use Rattle.apx_pass.specs.Graph.{Role, Input, Inner, Sink, Node, node_at}
use Rattle.apx_pass.specs.Groups as groups
use Rattle.apx_pass.specs.Groups.{window_bag}
use Rattle.apx_pass.specs.Order.{IsBefore, IsOrder}
use Rattle.apx_pass.specs.Pass.{Dataflow, Passed, gather, pass_role, pass_node, pass_within, pass_window, input_at, progress_after, rows_at, rows_of_input}
use Rattle.apx_pass.proofs.Passing.{pass_window-node}
use Rattle.apx_shares.specs.Carried.{cut_progress}
use Rattle.apx_shares.specs.Given.{unify_of, pass_part, part_progress, part_passed, part_rows}
use Rattle.apx_shares.specs.Laws.{HasParts, PartsCarryOn, PartsGiveAll}
use Rattle.apx_shares.proofs.Gathering.{gathered-keep-cuts, gathered-unify, nothing-merges, nothing-unifies}

-- ---- the rows of an operator are in order

bag-ascends : (tuples : List Tuple) → IsAscending tuple_order (bag_of tuples)
bag-ascends tuples = sorted-ascends tuple_order-exact tuples

step-ascends : (kind : Kind) (window : ℕ) (state : List Pair) (left right : List Tuple) → IsAscending tuple_order (step kind window state left right).rows
unfolding step
step-ascends (Top k) window state left right = bag-ascends _
step-ascends kind window state left right = bag-ascends _

gather-ascends : (kind : Kind) (app_windows w : ℕ) (progress : Progress) (left right : List Tuple) → IsAscending tuple_order (gather kind app_windows w progress left right).rows
unfolding gather
gather-ascends kind app_windows w progress left right = by (w % app_windows == 0)
  where
    by : (b : Bool) → IsAscending tuple_order (cond {A = Passed} b
        (record { progress = record { state = (step kind (w / app_windows) progress.state (bag_of (progress.left ++ left)) (bag_of (progress.right ++ right))).state; left = []; right = [] }; rows = (step kind (w / app_windows) progress.state (bag_of (progress.left ++ left)) (bag_of (progress.right ++ right))).rows })
        (record { progress = record { state = progress.state; left = bag_of (progress.left ++ left); right = bag_of (progress.right ++ right) }; rows = [] })).rows
    by true = step-ascends kind (w / app_windows) progress.state (bag_of (progress.left ++ left)) (bag_of (progress.right ++ right))
    by false = tt

input-ascends : (input : Option groups.Input) (w : ℕ) → IsAscending tuple_order (rows_of_input input w)
unfolding window_bag
input-ascends None w = tt
input-ascends (Some input) w = bag-ascends _

role-ascends : (role : Role) (app_windows : ℕ) (input : Option groups.Input) (w : ℕ) (progress : Progress) (left right : List Tuple) → IsAscending tuple_order left →
    IsAscending tuple_order (pass_role role app_windows input w progress left right).rows
unfolding pass_role
role-ascends (Input kind file per_window) app_windows input w progress left right a = input-ascends input w
role-ascends (Inner kind) app_windows input w progress left right a = gather-ascends kind app_windows w progress left (cond (has_right kind) right [])
role-ascends Sink app_windows input w progress left right a = a

within-ascends : (streams : ℕ) (flow : Dataflow) (w : ℕ) (before : ℕ → Progress) (o : ℕ) → IsAscending tuple_order (pass_within streams flow w before o).rows
unfolding pass_within
within-ascends zero flow w before o = tt
within-ascends (suc streams) flow w before o =
    let node = node_at flow.nodes o in
    role-ascends node.role node.app_windows (input_at flow o) w (before o) (pass_within streams flow w before node.left).rows (pass_within streams flow w before node.right).rows
    (within-ascends streams flow w before node.left)

pub rows-ascend : (flow : Dataflow) (w o : ℕ) → IsAscending tuple_order (rows_at flow w o)
unfolding rows_at
rows-ascend flow zero o = tt
rows-ascend flow (suc w) o = within-ascends (length flow.nodes) flow (suc w) (progress_after flow w) o

-- ---- by the role of an operator

-- what a partition carries on is its cut of what the whole does
part-carries : (n i : ℕ) (role : Role) (app_windows : ℕ) (input : Option groups.Input) (w : ℕ) (progress : Progress) (left right : List Tuple) →
    (pass_part n i role app_windows input w (cut_progress n i progress) left right).progress ≡ cut_progress n i (pass_role role app_windows input w progress left right).progress
unfolding pass_role pass_part
part-carries n i (Input kind file per_window) app_windows input w progress left right = refl
part-carries n i (Inner kind) app_windows input w progress left right = gathered-keep-cuts n i kind app_windows w progress left (cond (has_right kind) right [])
part-carries n i Sink app_windows input w progress left right = refl

-- a single bag is merged as it is
alone : (n : ℕ) (rows : List Tuple) → n ≡ 1 → IsAscending tuple_order rows → merge_bags (of_parts n (λ _. rows)) ≡ rows
alone n rows e a = ap (λ m. merge_bags (of_parts m (λ _. rows))) e ∙ (ap bag_of (nil rows) ∙ sorted-of-ascending tuple_order-exact rows a)
  where
    nil : (xs : List Tuple) → xs ++ [] ≡ xs
    nil [] = refl
    nil (x ∷ xs) = ap (λ l. x ∷ l) (nil xs)

-- what all partitions give is what the whole does
parts-give : (n : ℕ) (role : Role) → HasParts role n → (app_windows : ℕ) (input : Option groups.Input) (w : ℕ) (progress : Progress) (left right : List Tuple) →
    IsAscending tuple_order left →
    unify_of role (of_parts n (λ i. (pass_part n i role app_windows input w (cut_progress n i progress) left right).rows)) ≡ (pass_role role app_windows input w progress left right).rows
unfolding pass_role pass_part unify_of HasParts
parts-give n (Input kind file per_window) h app_windows input w progress left right a = alone n (rows_of_input input w) h (input-ascends input w)
parts-give n (Inner kind) h app_windows input w progress left right a = gathered-unify n h kind app_windows w progress left (cond (has_right kind) right [])
parts-give n Sink h app_windows input w progress left right a = alone n left h a

nothing-given : (role : Role) (n : ℕ) → unify_of role (of_parts n (λ _. [])) ≡ []
unfolding unify_of
nothing-given (Input kind file per_window) n = nothing-merges n
nothing-given (Inner kind) n = nothing-unifies kind n
nothing-given Sink n = nothing-merges n

-- ---- in a dataflow

module _ (flow : Dataflow) (order : List ℕ) (ordered : IsOrder flow.nodes order) (w : ℕ) where
  -- what an operator makes of a window, by what its sources give in it
  abbrev made : ℕ → Passed
  made o = let node = node_at flow.nodes o in pass_node node (input_at flow o) (suc w) (progress_after flow w o) (rows_at flow (suc w) node.left) (rows_at flow (suc w) node.right)

  turn : (k : ℕ) → k < length order → pass_window flow (suc w) (progress_after flow w) (slice_index order k) ≡ made (slice_index order k)
  unfolding rows_at
  turn k h = pass_window-node flow order ordered (suc w) (progress_after flow w) k h

  pub makes : (o : ℕ) → o < length flow.nodes → pass_window flow (suc w) (progress_after flow w) o ≡ made o
  makes o h = let at = ordered.whole o h in subst (λ q. pass_window flow (suc w) (progress_after flow w) q ≡ made q) at.is (turn at.place at.earlier)

  pub carries : (o : ℕ) → o < length flow.nodes → progress_after flow (suc w) o ≡ (made o).progress
  unfolding progress_after
  carries o h = ap (λ (x : Passed). x.progress) (makes o h)

  pub gives : (o : ℕ) → o < length flow.nodes → rows_at flow (suc w) o ≡ (made o).rows
  unfolding rows_at
  gives o h = ap (λ (x : Passed). x.rows) (makes o h)

pub parts-carry-on : PartsCarryOn
parts-carry-on flow order ordered n i w o h =
    let node = node_at flow.nodes o in
    part-carries n i node.role node.app_windows (input_at flow o) (suc w) (progress_after flow w o) (rows_at flow (suc w) node.left) (rows_at flow (suc w) node.right)
    ∙ ap (cut_progress n i) (sym (carries flow order ordered w o h))

-- before the first window nothing is given
nothing-first : (flow : Dataflow) (o : ℕ) → [] ≡ rows_at flow zero o
unfolding rows_at
nothing-first flow o = refl

pub parts-give-all : PartsGiveAll
unfolding part_rows
parts-give-all flow order ordered n zero o h p = nothing-given (node_at flow.nodes o).role n ∙ nothing-first flow o
parts-give-all flow order ordered n (suc w) o h p =
    let node = node_at flow.nodes o in
    parts-give n node.role p node.app_windows (input_at flow o) (suc w) (progress_after flow w o) (rows_at flow (suc w) node.left) (rows_at flow (suc w) node.right) (rows-ascend flow (suc w) node.left)
    ∙ sym (gives flow order ordered w o h)
