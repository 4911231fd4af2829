-- The order that a graph keeps is the one of its operators.
use Rattle.std.proofs.Common.{◌≡◌, ℕ, zero, suc, ◌+◌, ◌<◌, ◌≤◌, ◌&&◌, not, Bool, true, false, cond, List, [], ◌∷◌, ◌++◌, length, take, drop, slice_index, Contains, Option, Some, None, inl, inr, refl, sym, ap, ◌∙◌, subst, arith, add-one, drop-cons}
use Rattle.std.specs.Prelude.{find, if◌then◌else◌, nat_eq}
use Rattle.std.specs.List.{list_all, range_with_len}
use Rattle.std.specs.Option.{option_map_or}
use Rattle.std.specs.Cmp.{nat_eq_equiv}
use Rattle.std.proofs.lemmas.Bool.{eqb-true}
use Rattle.std.proofs.lemmas.List.{take_more, drop_all, length-map}
use Rattle.std.proofs.lemmas.Map.Views.{list_any-from_Contains, Contains-from_any}
use Rattle.apx_tuple.specs.Kind.{has_right}
use Rattle.apx_pass.specs.Graph.{Role, Input, Inner, Sink, Node, node_at}
use Rattle.apx_pass.specs.Order as orders
use Rattle.apx_pass.specs.Order.{sources, stands_in, is_ready, order_behind, order_of}
use Rattle.apx_dag.specs.declared.link.Link.{Link}
use Rattle.apx_dag.specs.Graph.{link_by, sources_of, sources_in}
use Rattle.apx_dag.specs.Order.{IsSource, IsReady, IsNext, IsLinkOrder}
use Rattle.apx_dag.proofs.Finding.{and_true, not_false}
use Rattle.apx_dag.proofs.Going.{link-of-node}

-- ---- an operator that is ready

stands-from : (xs : List ℕ) (x : ℕ) → Contains xs x → stands_in xs x ≡ true
stands-from xs x c = list_any-from_Contains {eq = nat_eq} nat_eq_equiv x xs c

stands-contains : (xs : List ℕ) (x : ℕ) → stands_in xs x ≡ true → Contains xs x
stands-contains xs x h = Contains-from_any {eq = nat_eq} eqb-true x xs h

-- a test of each source, by what feeds the operator
all-sources : (role : Role) (left right : ℕ) (p : ℕ → Bool) → ((a : ℕ) → IsSource (link_by role left right) a → p a ≡ true) → list_all p (orders.sources_of role left right) ≡ true
unfolding orders.sources_of
all-sources (Input kind file per_window) left right p f = refl
all-sources (Inner kind) left right p f = by (has_right kind) (f left (inl refl)) (λ e. f right (inr e))
  where
    by : (b : Bool) → p left ≡ true → ((if b then Some right else None) ≡ Some right → p right ≡ true) → list_all p (left ∷ cond b (right ∷ []) []) ≡ true
    by true l r = let e : p right ≡ true = r refl in rw (l, e) refl
    by false l r = rw l refl
all-sources Sink left right p f = let e : p left ≡ true = f left (inl refl) in rw e refl

source-passes : (role : Role) (left right : ℕ) (p : ℕ → Bool) → list_all p (orders.sources_of role left right) ≡ true → (a : ℕ) → IsSource (link_by role left right) a → p a ≡ true
unfolding orders.sources_of
source-passes (Input kind file per_window) left right p h a (inl e) = cc
source-passes (Input kind file per_window) left right p h a (inr e) = cc
source-passes (Inner kind) left right p h a (inl e) = let same : left ≡ a = cc in subst (λ n. p n ≡ true) same (and_true (p left) _ h).0
source-passes (Inner kind) left right p h a (inr e) = by (has_right kind) (and_true (p left) _ h).1 e
  where
    by : (b : Bool) → list_all p (cond b (right ∷ []) []) ≡ true → (if b then Some right else None) ≡ Some a → p a ≡ true
    by true k s = let same : right ≡ a = cc in subst (λ n. p n ≡ true) same (and_true (p right) true k).0
    by false k s = cc
source-passes Sink left right p h a (inl e) = let same : left ≡ a = cc in subst (λ n. p n ≡ true) same (and_true (p left) true h).0
source-passes Sink left right p h a (inr e) = cc

not-from : (b : Bool) → (b ≡ true → ⊥) → not b ≡ true
not-from true never = absurd (never refl)
not-from false never = refl

not-true : (b : Bool) → not b ≡ true → b ≡ true → ⊥
not-true true n e = cc
not-true false n e = cc

false-from : (b : Bool) → (b ≡ true → ⊥) → b ≡ false
false-from true never = absurd (never refl)
false-from false never = refl

module _ (nodes : List Node) (placed : List ℕ) where
  ready-test : (i : ℕ) → i < length nodes → IsReady (sources_in nodes) placed i → is_ready nodes placed i ≡ true
  ready-test i here r =
      let role = (node_at nodes i).role in
      let out : not (stands_in placed i) ≡ true = not-from (stands_in placed i) (λ e. r.unplaced (stands-contains placed i e)) in
      let fed : list_all (stands_in placed) (sources nodes i) ≡ true =
      all-sources role (node_at nodes i).left (node_at nodes i).right (stands_in placed)
      (λ a s. stands-from placed a (r.fed a (subst (λ (l : Link). IsSource l a) (sym (link-of-node nodes i here)) s))) in
      rw (out, fed) refl

  test-ready : (i : ℕ) → i < length nodes → is_ready nodes placed i ≡ true → IsReady (sources_in nodes) placed i
  test-ready i here h =
      let both = and_true (not (stands_in placed i)) (list_all (stands_in placed) (sources nodes i)) h in
      record {
        here = let long : length (sources_in nodes) ≡ length nodes = length-map nodes sources_of in omega arith;
        unplaced = λ c. not-true (stands_in placed i) both.0 (stands-from placed i c);
        fed = λ a s. stands-contains placed a
            (source-passes (node_at nodes i).role (node_at nodes i).left (node_at nodes i).right (stands_in placed) both.1 a (subst (λ (l : Link). IsSource l a) (link-of-node nodes i here) s));
      }

-- ---- the earliest of them

-- what passes first among n numbers
find-first : (p : ℕ → Bool) (a n i : ℕ) → i < n → p (a + i) ≡ true → ((j : ℕ) → j < i → p (a + j) ≡ false) → find p (range_with_len a n) ≡ Some (a + i)
find-first p a zero i h passes others = absurd (omega arith)
find-first p a (suc n) zero h passes others =
    let e : a + 0 ≡ a = omega arith in
    let here : p a ≡ true = subst (λ k. p k ≡ true) e passes in
    rw (here, e) refl
find-first p a (suc n) (suc i) h passes others =
    let e : a + suc i ≡ a + 1 + i = omega arith in
    let z : a + 0 ≡ a = omega arith in
    let here : p a ≡ false = subst (λ k. p k ≡ false) z (others 0 (omega arith)) in
    let rest = find-first p (a + 1) n i (omega arith) (subst (λ k. p k ≡ true) e passes)
    (λ j l. let f : a + suc j ≡ a + 1 + j = omega arith in subst (λ k. p k ≡ false) f (others (suc j) (omega arith))) in
    rw here (rest ∙ ap Some (sym e))

module _ (nodes : List Node) (order : List ℕ) (o : IsLinkOrder (sources_in nodes) order) where
  long : length order ≡ length nodes
  long = o.size ∙ length-map nodes sources_of

  next-found : (k : ℕ) → k < length order → find (is_ready nodes (take k order)) (range_with_len 0 (length nodes)) ≡ Some (slice_index order k)
  next-found k l =
      let n = o.next k l in
      let i = slice_index order k in
      let here : i < length nodes = (let e : length (sources_in nodes) ≡ length nodes = length-map nodes sources_of in let h : i < length (sources_in nodes) = n.ready.here in omega arith) in
      let z : 0 + i ≡ i = omega arith in
      let p = is_ready nodes (take k order) in
      find-first p 0 (length nodes) i here (subst (λ q. p q ≡ true) (sym z) (ready-test nodes (take k order) i here n.ready))
      (λ j h. let y : 0 + j ≡ j = omega arith in
      subst (λ q. p q ≡ false) (sym y) (false-from (p j) (λ e. n.earliest j h (test-ready nodes (take k order) j (omega arith) e))))
      ∙ ap Some z

  behind-places : (places k : ℕ) → k + places ≡ length order → order_behind places nodes (take k order) ≡ drop k order
  unfolding order_behind
  behind-places zero k e = sym (drop_all k order (omega arith))
  behind-places (suc places) k e =
      let l : k < length order = omega arith in
      let step = ap (λ (f : Option ℕ). option_map_or (λ q. q ∷ order_behind places nodes (take k order ++ q ∷ [])) f []) (next-found k l) in
      let more : take k order ++ slice_index order k ∷ [] ≡ take (k + 1) order = sym (take_more order k 0 l) in
      let rest : order_behind places nodes (take k order ++ slice_index order k ∷ []) ≡ drop (k + 1) order = ap (order_behind places nodes) more ∙ behind-places places (k + 1) (omega arith) in
      let front : drop k order ≡ slice_index order k ∷ drop (k + 1) order = rw add-one (drop-cons order k 0 l) in
      step ∙ ap (λ (xs : List ℕ). slice_index order k ∷ xs) rest ∙ sym front

  -- the order is the one of the graph's operators
  pub order-is : order ≡ order_of nodes
  order-is = sym (ap (λ n. order_behind n nodes []) (sym long) ∙ behind-places (length order) 0 (omega arith))
