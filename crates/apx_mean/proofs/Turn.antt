-- One turn of the loop over the operators in their order.
use Rattle.std.proofs.Common.{◌≡◌, ℕ, suc, Bool, true, false, cond, ◌+◌, ◌<◌, ◌≤◌, List, [], ◌∷◌, ◌++◌, length, take, map, get_or, slice_index, Option, inr, refl, sym, ap, ◌∙◌, subst, arith, length-take-le}
use Rattle.std.proofs.lemmas.List.{take_more, map_push, get_or-map, length-map}
use Rattle.apx_tuple.specs.declared.progress.Progress.{Progress}
use Rattle.apx_tuple.specs.declared.tuple.Tuple.{Tuple}
use Rattle.std.specs.Bool.{MatchBool}
use Rattle.std.specs.Prelude.{⊤}
use Rattle.apx_tuple.specs.Kind.{has_right}
use Rattle.apx_tuple.specs.Size.{IsLarge}
use Rattle.apx_tuple.specs.Tuple.{tuple_key}
use Rattle.apx_pass.specs.Graph as graph
use Rattle.apx_pass.specs.Graph.{Role, Inner, Sink, Node, node_at}
use Rattle.apx_pass.specs.Groups.{Input}
use Rattle.apx_pass.specs.Large.{IsLargePassed, IsLargeDataflow, right_came}
use Rattle.apx_pass.specs.Order.{IsOrder, OfPorts}
use Rattle.apx_pass.specs.Pass.{Dataflow, Passed, at_start, pass_node, pass_window, progress_after, rows_at, input_at, windows}
use Rattle.apx_pass.proofs.Passing.{pass_role-ports, pass_window-node}
use Rattle.apx_mean.specs.Views.{IsPassed, IsInner, AreCome}

-- what comes on the ports of an inner operator
large-came : (role : Role) → IsInner role → (left left' right right' : List Tuple) → OfPorts role (left ≡ left') (right ≡ right') → (left ≡ left') × (right_came role right ≡ right_came role right')
unfolding OfPorts right_came
large-came (Inner kind) inner left left' right right' h = (h.0, by (has_right kind) h.1)
  where
    by : (b : Bool) → MatchBool b (right ≡ right') ⊤ → cond b right [] ≡ cond b right' []
    by true e = e
    by false e = refl
large-came (graph.Input kind file per_window) inner left left' right right' h = absurd inner
large-came Sink inner left left' right right' h = absurd inner

module _ (flow : Dataflow) (order : List ℕ) (o : IsOrder flow.nodes order) (passed : ℕ) where
  -- what each operator gives and carries, by the rows of its sources
  pub turn : (k : ℕ) → k < length order → let op = slice_index order k in let node = node_at flow.nodes op in
      pass_window flow (suc passed) (progress_after flow passed) op ≡ pass_node node (input_at flow op) (suc passed) (progress_after flow passed op) (rows_at flow (suc passed) node.left) (rows_at flow (suc passed) node.right)
  unfolding rows_at
  turn k h = pass_window-node flow order o (suc passed) (progress_after flow passed) k h

  after : (op : ℕ) → (pass_window flow (suc passed) (progress_after flow passed) op).progress ≡ progress_after flow (suc passed) op
  unfolding progress_after
  after op = refl

  given : (op : ℕ) → (pass_window flow (suc passed) (progress_after flow passed) op).rows ≡ rows_at flow (suc passed) op
  unfolding rows_at
  given op = refl

  module _ (k : ℕ) (h : k < length order) (node : Node) (n : node ≡ node_at flow.nodes (slice_index order k)) (input : Option Input) (i : input ≡ input_at flow (slice_index order k))
      (before : Progress) (b : before ≡ progress_after flow passed (slice_index order k)) (w : ℕ) (e : w ≡ suc passed) where
    module _ (left right : List Tuple) (come : AreCome (rows_at flow (suc passed)) (node_at flow.nodes (slice_index order k)) left right) where
      here-come : AreCome (rows_at flow (suc passed)) node left right
      here-come = subst (λ (x : Node). AreCome (rows_at flow (suc passed)) x left right) (sym n) come

      same : pass_node node input w before left right ≡ pass_window flow (suc passed) (progress_after flow passed) (slice_index order k)
      same =
          pass_role-ports node.role node.app_windows input w before left (rows_at flow (suc passed) node.left) right (rows_at flow (suc passed) node.right) here-come
          ∙ (λ j. pass_node (n j) (i j) (e j) (b j) (rows_at flow (suc passed) (n j).left) (rows_at flow (suc passed) (n j).right)) ∙ sym (turn k h)

      -- what the code makes of the operator in its turn
      pub made : (progress : Progress) (rows : List Tuple) → IsPassed progress rows (pass_node node input w before left right) →
          (progress ≡ progress_after flow (suc passed) (slice_index order k)) × (rows ≡ rows_at flow (suc passed) (slice_index order k))
      made progress rows p = (p.0 ∙ ap (λ (x : Passed). x.progress) same ∙ after (slice_index order k), p.1 ∙ ap (λ (x : Passed). x.rows) same ∙ given (slice_index order k))

      -- what is too large for the code is too large in the pass
      pub made-large : passed < windows flow → IsInner node.role → IsLargePassed before left (right_came node.role right) (pass_node node input w before left right) → IsLargeDataflow flow
      made-large within inner large =
          let l = large-came node.role inner left (rows_at flow (suc passed) node.left) right (rows_at flow (suc passed) node.right) here-come in
          let at : IsLargePassed before (rows_at flow (suc passed) node.left) (right_came node.role (rows_at flow (suc passed) node.right)) (pass_node node input w before left right) =
          subst (λ (x : List Tuple × List Tuple). IsLargePassed before x.0 x.1 (pass_node node input w before left right)) (λ j. (l.0 j, l.1 j)) large in
          let P : Node × Progress × Passed → Type 0 = λ x. IsLargePassed x.1 (rows_at flow (suc passed) x.0.left) (right_came x.0.role (rows_at flow (suc passed) x.0.right)) x.2 in
          record { passed = passed; within = within; operator = slice_index order k; there = o.known k h; is = subst P (λ j. (n j, b j, same j)) at }

-- a list that has gone one place further
pub map-one-more : {X : Type 0} (f : ℕ → X) (order : List ℕ) (k n : ℕ) (made : X) (before after : List X) → k < length order → n ≡ k + 1 → before ≡ map f (take k order) → made ≡ f (slice_index order k) → after ≡ before ++ made ∷ [] → after ≡ map f (take n order)
map-one-more f order k n made before after h e b m a =
    a ∙ (λ j. b j ++ m j ∷ []) ∙ sym (map_push f (take k order) (slice_index order k)) ∙ ap (map f) (sym (take_more order k 0 h)) ∙ ap (λ q. map f (take q order)) (sym e)

-- where the loop stands in the order, and what the operator there carried before
pub here : (progress : List Progress) (order : List ℕ) (f : ℕ → Progress) (n k : ℕ) (before : Progress) → n ≡ k → progress ≡ map f order → k < length progress → before ≡ get_or progress k before →
    (n < length order) × (before ≡ f (slice_index order n))
here progress order f n k before e p h b =
    let long : length progress ≡ length order = ap length p ∙ length-map order f in
    let within : k < length order = omega arith in
    let at : before ≡ f (slice_index order k) = b ∙ ap (λ (xs : List Progress). get_or xs k before) p ∙ get_or-map f order k 0 before within in
    (omega arith, at ∙ ap (λ q. f (slice_index order q)) (sym e))

pub within : (progress : List Progress) (order : List ℕ) (f : ℕ → Progress) (k : ℕ) → progress ≡ map f order → k < length progress → k ≤ length order
within progress order f k p h = let long : length progress ≡ length order = ap length p ∙ length-map order f in omega arith

-- at the start each operator carries nothing
pub starts-at : (flow : Dataflow) (order : List ℕ) → map (λ _. at_start) order ≡ map (progress_after flow 0) order
unfolding progress_after
starts-at flow order = refl

-- rows that are too large for a bag are too large in the pass
pub rows-large : (flow : Dataflow) (order : List ℕ) → IsOrder flow.nodes order → (passed k : ℕ) → passed < windows flow → k < length order → (rows : List Tuple) → rows ≡ rows_at flow (suc passed) (slice_index order k) →
    IsLarge tuple_key rows → IsLargeDataflow flow
unfolding rows_at
rows-large flow order o passed k within h rows is large = record {
  passed = passed;
  within = within;
  operator = slice_index order k;
  there = o.known k h;
  is = record { is = inr (inr (inr (subst (IsLarge tuple_key) is large))) };
}
