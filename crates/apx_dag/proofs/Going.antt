-- An order in which the operators can step has every operator, and each behind those that it reads.
use Rattle.std.proofs.Common.{◌≡◌, ℕ, ◌<◌, Bool, true, false, List, length, take, slice_index, Contains, Some, None, refl, sym, ◌∙◌, subst, arith, inl, inr, get_or-take, length-take}
use Rattle.std.specs.Prelude.{⊤, if◌then◌else◌}
use Rattle.std.specs.Bool.{MatchBool}
use Rattle.std.proofs.lemmas.List.{get_or-map, length-map, get_or_default}
use Rattle.apx_tuple.specs.Kind.{has_right}
use Rattle.apx_pass.specs.Graph.{Role, Input, Inner, Sink, Node, node_at}
use Rattle.apx_pass.specs.Order.{OfPorts, IsBefore, IsOrder as CanGo}
use Rattle.apx_dag.specs.declared.link.Link.{Link}
use Rattle.apx_dag.specs.Graph.{link_by, sources_of, sources_in}
use Rattle.apx_dag.specs.Order.{link_at, IsSource, IsLinkOrder}

before-from-take : (order : List ℕ) (k a : ℕ) → Contains (take k order) a → IsBefore order k a
before-from-take order k a c =
    let short : c.0 < length (take k order) = c.1 in
    let within : c.0 < k = omega (arith, length-take k order) in
    let there : c.0 < length order = omega (arith, length-take k order) in
    record {
      place = c.0;
      earlier = within;
      is = get_or_default order c.0 0 a there ∙ sym (get_or-take k order c.0 a within) ∙ c.2;
    }

before-from-whole : (order : List ℕ) (a : ℕ) → Contains order a → IsBefore order (length order) a
before-from-whole order a c = record { place = c.0; earlier = c.1; is = get_or_default order c.0 0 a c.1 ∙ c.2 }

-- what feeds an operator is what its ports read
ports-fed : (role : Role) (left right : ℕ) (P : ℕ → Type 0) → ((a : ℕ) → IsSource (link_by role left right) a → P a) → OfPorts role (P left) (P right)
unfolding OfPorts
ports-fed (Input kind file per_window) left right P f = tt
ports-fed (Inner kind) left right P f = (f left (inl refl), right-fed (has_right kind) (λ e. f right (inr e)))
  where
    right-fed : (b : Bool) → ((if b then Some right else None) ≡ Some right → P right) → MatchBool b (P right) ⊤
    right-fed true g = g refl
    right-fed false g = tt
ports-fed Sink left right P f = f left (inl refl)

pub link-of-node : (nodes : List Node) (i : ℕ) → i < length nodes → link_at (sources_in nodes) i ≡ sources_of (node_at nodes i)
link-of-node nodes i h = get_or-map sources_of nodes i _ _ h

pub can-go : (nodes : List Node) (order : List ℕ) → IsLinkOrder (sources_in nodes) order → CanGo nodes order
can-go nodes order o =
    let long : length (sources_in nodes) ≡ length nodes = length-map nodes sources_of in
    let known = λ (k : ℕ) (h : k < length order). o.next k h in
    record {
      long = o.size ∙ long;
      known = λ k h. omega (arith, (o.next k h).ready.here, long);
      whole = λ i h. before-from-whole order i (o.each i (omega arith));
      behind = λ k h.
          let n = (o.next k h).ready in
          let here : slice_index order k < length nodes = omega (arith, n.here, long) in
          ports-fed (node_at nodes (slice_index order k)).role _ _ (IsBefore order k)
          (λ a s. before-from-take order k a (n.fed a (subst (λ (l : Link). IsSource l a) (sym (link-of-node nodes (slice_index order k) here)) s)));
    }
