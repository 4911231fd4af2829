-- Who is downstream of whom in a graph that has an order.
use Rattle.std.proofs.Common.{◌≡◌, ℕ, zero, suc, ◌<◌, ◌⊎◌, inl, inr, ◌==◌, ◌||◌, Bool, true, false, cond, List, [], ◌∷◌, length, slice_index, refl, sym, ap, subst, ◌∙◌, arith}
use Rattle.std.specs.Prelude.{⊤}
use Rattle.std.specs.Bool.{MatchBool}
use Rattle.std.specs.List.{list_any}
use Rattle.apx_history.proofs.Tests.{test}
use Rattle.apx_history.proofs.Conditions.{equal_at, equal_by}
use Rattle.apx_tuple.specs.Kind.{has_right}
use Rattle.apx_pass.specs.Graph.{Role, Input, Inner, Sink, Node, node_at}
use Rattle.apx_pass.specs.Order.{OfPorts, IsBefore, IsOrder, sources_of, sources, stands_in, reads, is_below}
use Rattle.apx_pass.proofs.Below.{is_below-sources}

-- ---- tests of some numbers

or_left : (a b : Bool) → a ≡ true → (a || b) ≡ true
or_left true b h = refl
or_left false b h = cc

or_right : (a b : Bool) → b ≡ true → (a || b) ≡ true
or_right true b h = refl
or_right false b h = h

or_second : (a b : Bool) → a ≡ false → (a || b) ≡ true → b ≡ true
or_second true b f h = cc
or_second false b f h = h

-- a test that one of some numbers passes
any_some : (p : ℕ → Bool) (xs : List ℕ) → list_any p xs ≡ true → (x : ℕ) × (stands_in xs x ≡ true) × (p x ≡ true)
any_some p [] h = absurd cc
any_some p (x ∷ xs) h = elim (test (p x)) [
  | inl t ↦ (x, or_left (x == x) (stands_in xs x) (equal_by x x refl), t)
  | inr f ↦ let later = any_some p xs (or_second (p x) (list_any p xs) f h) in (later.0, or_right (later.0 == x) (stands_in xs later.0) later.1, later.2)
]

any_by : (p : ℕ → Bool) (xs : List ℕ) (x : ℕ) → stands_in xs x ≡ true → p x ≡ true → list_any p xs ≡ true
any_by p [] x s t = absurd cc
any_by p (y ∷ xs) x s t = elim (test (x == y)) [
  | inl e ↦ or_left (p y) (list_any p xs) (subst (λ z. p z ≡ true) (equal_at x y e) t)
  | inr f ↦ or_right (p y) (list_any p xs) (any_by p xs x (or_second (x == y) (stands_in xs x) f s) t)
]

none_of_one : (a : Bool) → a ≡ false → (a || false) ≡ true → ⊥
none_of_one true f h = cc
none_of_one false f h = cc

-- what holds of the ports holds of each operator that they read
of_ports : (P : ℕ → Type 0) (role : Role) (left right x : ℕ) → OfPorts role (P left) (P right) → stands_in (sources_of role left right) x ≡ true → P x
unfolding OfPorts sources_of
of_ports P (Input kind file per_window) left right x of s = absurd cc
of_ports P (Inner kind) left right x of s = by (has_right kind) of.1 s
  where
    by : (b : Bool) → MatchBool b (P right) ⊤ → stands_in (left ∷ cond b (right ∷ []) []) x ≡ true → P x
    by true r s = elim (test (x == left)) [
      | inl e ↦ subst P (sym (equal_at x left e)) of.0
      | inr f ↦ elim (test (x == right)) [
        | inl e ↦ subst P (sym (equal_at x right e)) r
        | inr g ↦ absurd (none_of_one (x == right) g (or_second (x == left) (x == right || false) f s))
      ]
    ]
    by false r s = elim (test (x == left)) [
      | inl e ↦ subst P (sym (equal_at x left e)) of.0
      | inr f ↦ absurd (none_of_one (x == left) f s)
    ]
of_ports P Sink left right x of s = elim (test (x == left)) [
  | inl e ↦ subst P (sym (equal_at x left e)) of
  | inr f ↦ absurd (none_of_one (x == left) f s)
]

-- ---- a graph with an order

module _ (nodes : List Node) (order : List ℕ) (o : IsOrder nodes order) where
  -- what is read stands before what reads it
  read_before : (k op x : ℕ) → k < length order → slice_index order k ≡ op → reads nodes op x ≡ true → IsBefore order k x
  read_before k op x h is r =
      let node = node_at nodes (slice_index order k) in
      of_ports (IsBefore order k) node.role node.left node.right x (o.behind k h) (subst (λ q. reads nodes q x ≡ true) (sym is) r)

  known : (k op : ℕ) → k < length order → slice_index order k ≡ op → op < length nodes
  known k op h is = subst (λ q. q < length nodes) is (o.known k h)

  -- what is read is there
  pub read_there : (op x : ℕ) → op < length nodes → reads nodes op x ≡ true → x < length nodes
  read_there op x h r =
      let at = o.whole op h in
      let b = read_before at.place op x at.earlier at.is r in
      known b.place x (omega (arith, b.earlier, at.earlier)) b.is

  -- the last stream of a way from s to an operator
  path : (s op : ℕ) → op < length nodes → is_below nodes s op ≡ true → (x : ℕ) × (reads nodes op x ≡ true) × ((s ≡ x) ⊎ (is_below nodes s x ≡ true))
  path s op h below =
      let some = any_some (λ source. s == source || is_below nodes s source) (sources nodes op) (sym (is_below-sources nodes order o s op h) ∙ below) in
      (some.0, some.1, elim (test (s == some.0)) [ inl e ↦ inl (equal_at s some.0 e) | inr f ↦ inr (or_second (s == some.0) (is_below nodes s some.0) f some.2) ])

  -- one stream more
  pub below_over : (s op x : ℕ) → op < length nodes → reads nodes op x ≡ true → (s ≡ x) ⊎ (is_below nodes s x ≡ true) → is_below nodes s op ≡ true
  below_over s op x h r way =
      is_below-sources nodes order o s op h ∙ any_by (λ source. s == source || is_below nodes s source) (sources nodes op) x r
      (elim way [ inl e ↦ or_left (s == x) (is_below nodes s x) (equal_by s x e) | inr b ↦ or_right (s == x) (is_below nodes s x) b ])

  -- what is upstream stands before
  upstream : (fuel k op s : ℕ) → k < fuel → k < length order → slice_index order k ≡ op → is_below nodes s op ≡ true → IsBefore order k s
  upstream zero k op s f h is below = absurd (omega arith)
  upstream (suc fuel) k op s f h is below =
      let way = path s op (known k op h is) below in
      let b = read_before k op way.0 h is way.1 in
      elim way.2 [
        | inl e ↦ subst (IsBefore order k) (sym e) b
        | inr more ↦
            let first = upstream fuel b.place way.0 s (omega (arith, b.earlier, f)) (omega (arith, b.earlier, h)) b.is more in
            record { place = first.place; earlier = omega (arith, first.earlier, b.earlier); is = first.is }
      ]

  loopless : (fuel k op : ℕ) → k < fuel → k < length order → slice_index order k ≡ op → is_below nodes op op ≡ true → ⊥
  loopless zero k op f h is below = omega (arith, f)
  loopless (suc fuel) k op f h is below =
      let b = upstream (suc k) k op op (omega arith) h is below in
      loopless fuel b.place op (omega (arith, b.earlier, f)) (omega (arith, b.earlier, h)) b.is below

  further_at : (fuel k op s t : ℕ) → k < fuel → k < length order → slice_index order k ≡ op → is_below nodes s t ≡ true → is_below nodes t op ≡ true → is_below nodes s op ≡ true
  further_at zero k op s t f h is first second = absurd (omega arith)
  further_at (suc fuel) k op s t f h is first second =
      let way = path t op (known k op h is) second in
      let b = read_before k op way.0 h is way.1 in
      below_over s op way.0 (known k op h is) way.1 (inr (elim way.2 [
        | inl e ↦ subst (λ q. is_below nodes s q ≡ true) e first
        | inr more ↦ further_at fuel b.place way.0 s t (omega (arith, b.earlier, f)) (omega (arith, b.earlier, h)) b.is first more
      ]))

  only_at : (fuel k op s : ℕ) → k < fuel → k < length order → slice_index order k ≡ op → is_below nodes s op ≡ true → (reads nodes op s ≡ true) ⊎ ((t : ℕ) × (reads nodes t s ≡ true) × (is_below nodes t op ≡ true) × (t < length nodes))
  only_at zero k op s f h is below = absurd (omega arith)
  only_at (suc fuel) k op s f h is below =
      let here = known k op h is in
      let way = path s op here below in
      let b = read_before k op way.0 h is way.1 in
      elim way.2 [
        | inl e ↦ inl (subst (λ q. reads nodes op q ≡ true) (sym e) way.1)
        | inr more ↦ elim (only_at fuel b.place way.0 s (omega (arith, b.earlier, f)) (omega (arith, b.earlier, h)) b.is more) [
          | inl r ↦ inr (way.0, r, below_over way.0 op way.0 here way.1 (inl refl), read_there op way.0 here way.1)
          | inr t ↦ inr (t.0, t.1, below_over t.0 op way.0 here way.1 (inr t.2), t.3)
        ]
      ]

  -- ---- of each operator that is there

  -- what is upstream is there
  pub below_there : (s op : ℕ) → op < length nodes → is_below nodes s op ≡ true → s < length nodes
  below_there s op h below =
      let at = o.whole op h in
      let b = upstream (suc at.place) at.place op s (omega arith) at.earlier at.is below in
      known b.place s (omega (arith, b.earlier, at.earlier)) b.is

  pub direct : (op s : ℕ) → op < length nodes → reads nodes op s ≡ true → is_below nodes s op ≡ true
  direct op s h r = below_over s op s h r (inl refl)

  pub further : (s t op : ℕ) → op < length nodes → is_below nodes s t ≡ true → is_below nodes t op ≡ true → is_below nodes s op ≡ true
  further s t op h first second = let at = o.whole op h in further_at (suc at.place) at.place op s t (omega arith) at.earlier at.is first second

  pub only : (s op : ℕ) → op < length nodes → is_below nodes s op ≡ true → (reads nodes op s ≡ true) ⊎ ((t : ℕ) × (reads nodes t s ≡ true) × (is_below nodes t op ≡ true) × (t < length nodes))
  only s op h below = let at = o.whole op h in only_at (suc at.place) at.place op s (omega arith) at.earlier at.is below

  pub acyclic : (op : ℕ) → op < length nodes → is_below nodes op op ≡ true → ⊥
  acyclic op h below = let at = o.whole op h in loopless (suc at.place) at.place op (omega arith) at.earlier at.is below
