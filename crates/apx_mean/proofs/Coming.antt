-- What comes on the ports of the next operator of an order, by its role.
use Rattle.std.proofs.Common.{◌≡◌, ℕ, ◌+◌, ◌<◌, Bool, true, false, cond, List, [], ◌∷◌, ◌++◌, length, slice_index, refl, sym, ap, ◌∙◌, subst}
use Rattle.std.specs.Bool.{MatchBool}
use Rattle.std.specs.Prelude.{⊤}
use Rattle.apx_tuple.specs.declared.tuple.Tuple.{Tuple}
use Rattle.apx_tuple.specs.declared.kind.Kind.{Kind}
use Rattle.apx_tuple.specs.declared.kind.InputKind.{InputKind}
use Rattle.apx_tuple.specs.Kind.{has_right}
use Rattle.apx_pass.specs.Graph.{Role, Input, Inner, Sink, Node, node_at}
use Rattle.apx_pass.specs.Order.{sources_of, OfPorts, IsBefore, IsOrder}
use Rattle.apx_mean.specs.Kept.{reads_from}
use Rattle.apx_mean.specs.Views.{AreCome}
use Rattle.apx_mean.proofs.Keeping.{reads-next}

-- what a role reads
abbrev reads_of : Node → List ℕ
reads_of node = sources_of node.role node.left node.right

module _ (nodes : List Node) (order : List ℕ) (o : IsOrder nodes order) (k : ℕ) (within : k < length order) (node : Node) (e : node ≡ node_at nodes (slice_index order k)) where
  next : (own : List ℕ) → reads_of node ≡ own → reads_from nodes order k ≡ own ++ reads_from nodes order (k + 1)
  next own is = reads-next nodes order k within ∙ ap (λ (xs : List ℕ). xs ++ reads_from nodes order (k + 1)) (ap reads_of (sym e) ∙ is)

  by-role : (role : Role) → node.role ≡ role → reads_of node ≡ sources_of role node.left node.right
  by-role role is = ap (λ (r : Role). sources_of r node.left node.right) is

  -- an input reads nothing
  pub reads-input : (kind : InputKind) (file : List ℕ) (per_window : ℕ) → node.role ≡ Input kind file per_window → reads_from nodes order k ≡ reads_from nodes order (k + 1)
  unfolding sources_of
  reads-input kind file per_window is = next [] (by-role (Input kind file per_window) is)

  -- the sink reads one operator
  pub reads-sink : node.role ≡ Sink → reads_from nodes order k ≡ node.left ∷ reads_from nodes order (k + 1)
  unfolding sources_of
  reads-sink is = next (node.left ∷ []) (by-role Sink is)

  -- an inner operator reads one or two
  pub reads-one : (kind : Kind) → node.role ≡ Inner kind → has_right kind ≡ false → reads_from nodes order k ≡ node.left ∷ reads_from nodes order (k + 1)
  unfolding sources_of
  reads-one kind is one = next (node.left ∷ []) (by-role (Inner kind) is ∙ ap (λ b. node.left ∷ cond b (node.right ∷ []) []) one)

  pub reads-both : (kind : Kind) → node.role ≡ Inner kind → has_right kind ≡ true → reads_from nodes order k ≡ node.left ∷ node.right ∷ reads_from nodes order (k + 1)
  unfolding sources_of
  reads-both kind is both = next (node.left ∷ node.right ∷ []) (by-role (Inner kind) is ∙ ap (λ b. node.left ∷ cond b (node.right ∷ []) []) both)

  behind : (role : Role) → node.role ≡ role → OfPorts role (IsBefore order k node.left) (IsBefore order k node.right)
  behind role is =
      let here : OfPorts node.role (IsBefore order k node.left) (IsBefore order k node.right) =
      subst (λ (n : Node). OfPorts n.role (IsBefore order k n.left) (IsBefore order k n.right)) (sym e) (o.behind k within) in
      subst (λ (r : Role). OfPorts r (IsBefore order k node.left) (IsBefore order k node.right)) is here

  -- the operators that are read stand before
  pub behind-sink : node.role ≡ Sink → IsBefore order k node.left
  unfolding OfPorts
  behind-sink is = behind Sink is

  pub behind-left : (kind : Kind) → node.role ≡ Inner kind → IsBefore order k node.left
  unfolding OfPorts
  behind-left kind is = (behind (Inner kind) is).0

  pub behind-right : (kind : Kind) → node.role ≡ Inner kind → has_right kind ≡ true → IsBefore order k node.right
  unfolding OfPorts
  behind-right kind is both = subst (λ b. MatchBool b (IsBefore order k node.right) ⊤) both (behind (Inner kind) is).1

  module _ (gives : ℕ → List Tuple) (left right : List Tuple) where
    come : (role : Role) → node.role ≡ role → OfPorts role (left ≡ gives node.left) (right ≡ gives node.right) → AreCome gives (node_at nodes (slice_index order k)) left right
    come role is ports =
        let here : AreCome gives node left right = subst (λ (r : Role). OfPorts r (left ≡ gives node.left) (right ≡ gives node.right)) (sym is) ports in
        subst (λ (n : Node). AreCome gives n left right) e here

    -- so that what comes is what they give
    pub come-input : (kind : InputKind) (file : List ℕ) (per_window : ℕ) → node.role ≡ Input kind file per_window → AreCome gives (node_at nodes (slice_index order k)) left right
    unfolding OfPorts
    come-input kind file per_window is = come (Input kind file per_window) is tt

    pub come-sink : node.role ≡ Sink → left ≡ gives node.left → AreCome gives (node_at nodes (slice_index order k)) left right
    unfolding OfPorts
    come-sink is l = come Sink is l

    pub come-one : (kind : Kind) → node.role ≡ Inner kind → has_right kind ≡ false → left ≡ gives node.left → AreCome gives (node_at nodes (slice_index order k)) left right
    unfolding OfPorts
    come-one kind is one l = come (Inner kind) is (l, subst (λ b. MatchBool b (right ≡ gives node.right) ⊤) (sym one) tt)

    pub come-both : (kind : Kind) → node.role ≡ Inner kind → has_right kind ≡ true → left ≡ gives node.left → right ≡ gives node.right → AreCome gives (node_at nodes (slice_index order k)) left right
    unfolding OfPorts
    come-both kind is both l r = come (Inner kind) is (l, subst (λ b. MatchBool b (right ≡ gives node.right) ⊤) (sym both) r)
