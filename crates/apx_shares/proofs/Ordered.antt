-- What an operator carries is in order: its pairs by their keys, each once, and its gathered tuples.
use Rattle.std.proofs.Common.{◌≡◌, ℕ, ◌+◌, ◌≤◌, ◌/◌, ◌%◌, ◌==◌, zero, suc, Bool, true, false, cond, List, [], ◌∷◌, ◌++◌, length, Option, refl, sym, ap, ◌∙◌, arith}
use Rattle.std.specs.declared.cmp.Ordering.{Ordering}
use Rattle.std.specs.declared.cmp.Ordering.TheVariants.{Less, Equal, Greater}
use Rattle.std.specs.Ordering.{is_eq}
use Rattle.std.specs.List.{AllByRecursion}
use Rattle.std.specs.List.Sorted.{IsStrictlySortedBy}
use Rattle.std.specs.Map.{keys_of}
use Rattle.apx_order.specs.Sorted.{times}
use Rattle.apx_order.proofs.Sorting.{sorted-ascends}
use Rattle.apx_order.proofs.Once.{each_once-strict}
use Rattle.apx_tuple.specs.declared.kind.Kind.{Kind}
use Rattle.apx_tuple.specs.declared.kind.Kind.TheVariants.{Top}
use Rattle.apx_tuple.specs.declared.progress.Progress.{Progress}
use Rattle.apx_tuple.specs.declared.tuple.Tuple.{Tuple}
use Rattle.apx_tuple.specs.Kind.{has_right}
use Rattle.apx_tuple.specs.State.{Pair}
use Rattle.apx_tuple.specs.Tuple.{key_order, tuple_order, bag_of}
use Rattle.apx_tuple.proofs.Orders.{key_order-exact, key_order-tight, tuple_order-exact}
use Rattle.apx_rules.specs.Step.{step, outcome_at, step_keys}
use Rattle.apx_rules.proofs.Pairs.{entries_at-ascends}
use Rattle.apx_pass.specs.Graph.{Role, Input, Inner, Sink, node_at}
use Rattle.apx_pass.specs.Groups as groups
use Rattle.apx_pass.specs.Pass.{Dataflow, Passed, gather, pass_role, pass_within, input_at, progress_after}
use Rattle.apx_shares.specs.Laws.{IsOrdered, CarriedIsOrdered}

-- the state of a step has its keys in order
step-ordered : (kind : Kind) (window : ℕ) (state : List Pair) (left right : List Tuple) → IsStrictlySortedBy key_order (keys_of (step kind window state left right).state)
unfolding step IsStrictlySortedBy
step-ordered (Top k) window state left right = tt
step-ordered kind window state left right =
    entries_at-ascends (λ key. (outcome_at kind window state left right key).entry) (step_keys state left right) (each_once-strict key_order-exact _)

gather-ordered : (kind : Kind) (app_windows w : ℕ) (progress : Progress) (left right : List Tuple) → IsOrdered progress → IsOrdered (gather kind app_windows w progress left right).progress
unfolding gather
gather-ordered kind app_windows w progress left right o = by (w % app_windows == 0)
  where
    by : (b : Bool) → IsOrdered (cond {A = Passed} b
        (record { progress = record { state = (step kind (w / app_windows) progress.state (bag_of (progress.left ++ left)) (bag_of (progress.right ++ right))).state; left = []; right = [] }; rows = (step kind (w / app_windows) progress.state (bag_of (progress.left ++ left)) (bag_of (progress.right ++ right))).rows })
        (record { progress = record { state = progress.state; left = bag_of (progress.left ++ left); right = bag_of (progress.right ++ right) }; rows = [] })).progress
    by true = record { state = step-ordered kind (w / app_windows) progress.state (bag_of (progress.left ++ left)) (bag_of (progress.right ++ right)); left = tt; right = tt }
    by false = record { state = o.state; left = sorted-ascends tuple_order-exact (progress.left ++ left); right = sorted-ascends tuple_order-exact (progress.right ++ right) }

nothing-ordered : IsOrdered (record { state = []; left = []; right = [] })
unfolding IsStrictlySortedBy
nothing-ordered = record { state = tt; left = tt; right = tt }

role-ordered : (role : Role) (app_windows : ℕ) (input : Option groups.Input) (w : ℕ) (progress : Progress) (left right : List Tuple) → IsOrdered progress → IsOrdered (pass_role role app_windows input w progress left right).progress
unfolding pass_role
role-ordered (Input kind file per_window) app_windows input w progress left right o = nothing-ordered
role-ordered (Inner kind) app_windows input w progress left right o = gather-ordered kind app_windows w progress left (cond (has_right kind) right []) o
role-ordered Sink app_windows input w progress left right o = nothing-ordered

within-ordered : (streams : ℕ) (flow : Dataflow) (w : ℕ) (before : ℕ → Progress) (o : ℕ) → IsOrdered (before o) → IsOrdered (pass_within streams flow w before o).progress
unfolding pass_within
within-ordered zero flow w before o h = nothing-ordered
within-ordered (suc streams) flow w before o h =
    let node = node_at flow.nodes o in
    role-ordered node.role node.app_windows (input_at flow o) w (before o) (pass_within streams flow w before node.left).rows (pass_within streams flow w before node.right).rows h

pub carried-is-ordered : CarriedIsOrdered
unfolding progress_after
carried-is-ordered flow zero o = nothing-ordered
carried-is-ordered flow (suc w) o = within-ordered (length flow.nodes) flow (suc w) (progress_after flow w) o (carried-is-ordered flow w o)

abbrev number : Bool → ℕ
number b = cond b 1 0

-- keys that ascend stand once each
times-above : (k : List ℕ) (ks : List (List ℕ)) → AllByRecursion (λ l. key_order k l ≡ Less) ks → times key_order k ks ≡ 0
unfolding times
times-above k [] a = refl
times-above k (l ∷ ks) a = let no : number (is_eq (key_order k l)) ≡ 0 = ap (λ (r : Ordering). number (is_eq r)) a.0 in omega (arith, no, times-above k ks a.1)

pub strictly-once : (q : List ℕ) (ks : List (List ℕ)) → IsStrictlySortedBy key_order ks → times key_order q ks ≤ 1
unfolding IsStrictlySortedBy times
strictly-once q [] a = omega arith
strictly-once q (k ∷ ks) a = by (key_order q k) refl (strictly-once q ks a.1)
  where
    by : (r : Ordering) → key_order q k ≡ r → times key_order q ks ≤ 1 → number (is_eq r) + times key_order q ks ≤ 1
    by Equal e rest = let none : times key_order q ks ≡ 0 = ap (λ (l : List ℕ). times key_order l ks) (key_order-tight q k e) ∙ times-above k ks a.0 in omega (arith, none)
    by Less e rest = omega (arith, rest)
    by Greater e rest = omega (arith, rest)
