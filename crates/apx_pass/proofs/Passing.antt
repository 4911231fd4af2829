-- What an operator gives follows from what its sources give, in each graph that has an order.
use Rattle.std.proofs.Common.{◌≡◌, ℕ, zero, suc, ◌<◌, ◌≤◌, Bool, true, false, cond, List, [], length, Option, slice_index, refl, ap, ◌∙◌, subst, arith}
use Rattle.std.specs.Bool.{MatchBool}
use Rattle.std.specs.Prelude.{⊤}
use Rattle.apx_tuple.specs.declared.progress.Progress.{Progress}
use Rattle.apx_tuple.specs.declared.tuple.Tuple.{Tuple}
use Rattle.apx_tuple.specs.Kind.{has_right}
use Rattle.apx_pass.specs.Graph.{Role, Input, Inner, Sink, node_at}
use Rattle.apx_pass.specs.Groups as groups
use Rattle.apx_pass.specs.Order.{OfPorts, IsBefore, IsOrder}
use Rattle.apx_pass.specs.Pass.{Dataflow, Passed, gather, pass_role, pass_node, pass_within, pass_window, input_at}

-- an operator without a right port passes over what is said to come there
right-or-none : (b : Bool) (right right' : List Tuple) → MatchBool b (right ≡ right') ⊤ → cond b right [] ≡ cond b right' []
right-or-none true right right' h = h
right-or-none false right right' h = refl

-- what an operator makes of a window depends on the rows of those ports alone that it has
pub pass_role-ports : (role : Role) (app_windows : ℕ) (input : Option groups.Input) (w : ℕ) (progress : Progress) (left left' right right' : List Tuple) →
    OfPorts role (left ≡ left') (right ≡ right') → pass_role role app_windows input w progress left right ≡ pass_role role app_windows input w progress left' right'
unfolding OfPorts pass_role
pass_role-ports (Input kind file per_window) app_windows input w progress left left' right right' h = refl
pass_role-ports (Inner kind) app_windows input w progress left left' right right' h =
    let e : cond (has_right kind) right [] ≡ cond (has_right kind) right' [] = right-or-none (has_right kind) right right' h.1 in
    λ i. gather kind app_windows w progress (h.0 i) (e i)
pass_role-ports Sink app_windows input w progress left left' right right' h = λ i. record { progress = record { state = []; left = []; right = [] }; rows = h i }

-- what holds of each port holds of what follows from it
pub OfPorts-map : (role : Role) (A A' B B' : Type 0) → (A → A') → (B → B') → OfPorts role A B → OfPorts role A' B'
unfolding OfPorts
OfPorts-map (Input kind file per_window) A A' B B' f g h = tt
OfPorts-map (Inner kind) A A' B B' f g h = (f h.0, right (has_right kind) h.1)
  where
    right : (b : Bool) → MatchBool b B ⊤ → MatchBool b B' ⊤
    right true p = g p
    right false p = tt
OfPorts-map Sink A A' B B' f g h = f h

module _ (flow : Dataflow) (order : List ℕ) (o : IsOrder flow.nodes order) (w : ℕ) (before : ℕ → Progress) where
  rows-before : (streams k : ℕ) → k ≤ streams → ((j : ℕ) → j < streams → j < length order → pass_within streams flow w before (slice_index order j) ≡ pass_within (suc streams) flow w before (slice_index order j)) →
      k < length order → (s : ℕ) → IsBefore order k s → (pass_within streams flow w before s).rows ≡ (pass_within (suc streams) flow w before s).rows
  rows-before streams k h same l s b =
      let earlier : b.place < k = b.earlier in
      let P : ℕ → Type 0 = λ q. (pass_within streams flow w before q).rows ≡ (pass_within (suc streams) flow w before q).rows in
      subst P b.is (ap (λ (x : Passed). x.rows) (same b.place (omega arith) (omega arith)))

  -- more streams than an operator has before it in the order change nothing
  settled : (streams k : ℕ) → k < streams → k < length order → pass_within streams flow w before (slice_index order k) ≡ pass_within (suc streams) flow w before (slice_index order k)
  unfolding pass_within
  settled zero k h l = absurd (omega arith)
  settled (suc streams) k h l =
      let node = node_at flow.nodes (slice_index order k) in
      let earlier = rows-before streams k (omega arith) (λ j p q. settled streams j p q) l in
      pass_role-ports node.role node.app_windows (input_at flow (slice_index order k)) w (before (slice_index order k)) _ _ _ _
      (OfPorts-map node.role _ _ _ _ (earlier node.left) (earlier node.right) (o.behind k l))

  one-more : (streams op : ℕ) → pass_within (suc streams) flow w before op ≡ pass_node (node_at flow.nodes op) (input_at flow op) w (before op) (pass_within streams flow w before (node_at flow.nodes op).left).rows (pass_within streams flow w before (node_at flow.nodes op).right).rows
  unfolding pass_within
  one-more streams op = refl

  -- what an operator makes of a window, from what its sources give in it
  pub pass_window-node : (k : ℕ) → k < length order →
      let op = slice_index order k in
      let node = node_at flow.nodes op in
      pass_window flow w before op ≡ pass_node node (input_at flow op) w (before op) (pass_window flow w before node.left).rows (pass_window flow w before node.right).rows
  pass_window-node k l = settled (length flow.nodes) k (let e : length order ≡ length flow.nodes = o.long in omega arith) l ∙ one-more (length flow.nodes) (slice_index order k)
