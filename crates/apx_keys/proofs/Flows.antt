-- The keys of what operators carry and give, window after window.
use Rattle.std.proofs.Common.{ℕ, zero, suc, ◌/◌, ◌%◌, ◌==◌, Bool, true, false, cond, List, [], ◌++◌, length, Option}
use Rattle.std.specs.List.{AllByRecursion}
use Rattle.std.specs.Map.{keys_of}
use Rattle.apx_pass.specs.Graph.{Role, Input, Inner, Sink, node_at}
use Rattle.apx_pass.specs.Groups as groups
use Rattle.apx_pass.specs.Pass.{Dataflow, Passed, gather, pass_role, pass_within, input_at, rows_of_input, progress_after, rows_at}
use Rattle.apx_rules.specs.Step.{step}
use Rattle.apx_tuple.specs.declared.kind.Kind.{Kind}
use Rattle.apx_tuple.specs.declared.progress.Progress.{Progress}
use Rattle.apx_tuple.specs.declared.tuple.Tuple.{Tuple}
use Rattle.apx_tuple.specs.Kind.{has_right}
use Rattle.apx_tuple.specs.Tuple.{bag_of, tuple_order}
use Rattle.apx_keys.specs.Keys.{HaveKeys, IsKept, InputsHave, KeysStay}
use Rattle.apx_keys.proofs.Members.{each-append, each-chosen, each-sorted}
use Rattle.apx_keys.proofs.Steps.{step-has}

-- what is carried has keys with K
pub record CarriesKeys (K : List ℕ → Type 0) (progress : Progress) : Type 0 where
  -- those of its pairs
  pub state : AllByRecursion K (keys_of progress.state)
  -- of what was gathered on the left port
  pub left : HaveKeys K progress.left
  -- and on the right port
  pub right : HaveKeys K progress.right

module _ (K : List ℕ → Type 0) (kept : IsKept K) where
  abbrev PassedHas : Passed → Type 0
  PassedHas passed = CarriesKeys K passed.progress × HaveKeys K passed.rows

  joined : (before now : List Tuple) → HaveKeys K before → HaveKeys K now → HaveKeys K (bag_of (before ++ now))
  joined before now a b = each-sorted (λ t. K t.key) tuple_order (before ++ now) (each-append (λ t. K t.key) before now a b)

  gathers : (kind : Kind) (app_windows w : ℕ) (progress : Progress) (left right : List Tuple) → CarriesKeys K progress → HaveKeys K left → HaveKeys K right → PassedHas (gather kind app_windows w progress left right)
  unfolding gather
  gathers kind app_windows w progress left right p l r = by (w % app_windows == 0)
    where
      lefts : HaveKeys K (bag_of (progress.left ++ left))
      lefts = joined progress.left left p.left l

      rights : HaveKeys K (bag_of (progress.right ++ right))
      rights = joined progress.right right p.right r

      by : (b : Bool) → PassedHas (cond {A = Passed} b
          (record { progress = record { state = (step kind (w / app_windows) progress.state (bag_of (progress.left ++ left)) (bag_of (progress.right ++ right))).state; left = []; right = [] }; rows = (step kind (w / app_windows) progress.state (bag_of (progress.left ++ left)) (bag_of (progress.right ++ right))).rows })
          (record { progress = record { state = progress.state; left = bag_of (progress.left ++ left); right = bag_of (progress.right ++ right) }; rows = [] }))
      by true = let s = step-has K kept kind (w / app_windows) progress.state (bag_of (progress.left ++ left)) (bag_of (progress.right ++ right)) p.state lefts rights in (record { state = s.0; left = tt; right = tt }, s.1)
      by false = (record { state = p.state; left = lefts; right = rights }, tt)

  nothing : CarriesKeys K (record { state = []; left = []; right = [] })
  nothing = record { state = tt; left = tt; right = tt }

  by-role : (role : Role) (app_windows : ℕ) (input : Option groups.Input) (w : ℕ) (progress : Progress) (left right : List Tuple) → HaveKeys K (rows_of_input input w) → CarriesKeys K progress → HaveKeys K left → HaveKeys K right →
      PassedHas (pass_role role app_windows input w progress left right)
  unfolding pass_role
  by-role (Input kind file per_window) app_windows input w progress left right i p l r = (nothing, i)
  by-role (Inner kind) app_windows input w progress left right i p l r =
      gathers kind app_windows w progress left (cond (has_right kind) right []) p l (each-chosen (λ t. K t.key) (has_right kind) right [] r tt)
  by-role Sink app_windows input w progress left right i p l r = (nothing, l)

  module _ (flow : Dataflow) (inputs : InputsHave K flow) where
    within : (streams w : ℕ) (before : ℕ → Progress) → ((o : ℕ) → CarriesKeys K (before o)) → (o : ℕ) → PassedHas (pass_within streams flow w before o)
    unfolding pass_within
    within zero w before h o = (nothing, tt)
    within (suc streams) w before h o =
        let node = node_at flow.nodes o in
        by-role node.role node.app_windows (input_at flow o) w (before o) (pass_within streams flow w before node.left).rows (pass_within streams flow w before node.right).rows
        (inputs o w) (h o) (within streams w before h node.left).1 (within streams w before h node.right).1

    -- what an operator carries
    pub carried-keys : (w o : ℕ) → CarriesKeys K (progress_after flow w o)
    unfolding progress_after
    carried-keys zero o = nothing
    carried-keys (suc w) o = (within (length flow.nodes) (suc w) (progress_after flow w) (carried-keys w) o).0

    -- and gives
    pub given-keys : (w o : ℕ) → HaveKeys K (rows_at flow w o)
    unfolding rows_at
    given-keys zero o = tt
    given-keys (suc w) o = (within (length flow.nodes) (suc w) (progress_after flow w) (carried-keys w) o).1

pub keys-stay : KeysStay
keys-stay K kept flow inputs w o = given-keys K kept flow inputs w o
