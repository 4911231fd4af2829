-- The list of the last checkpoints has those and no other.
use Rattle.std.proofs.Common.{◌≡◌, ℕ, zero, suc, ◌+◌, ◌<◌, ◌≤◌, ◌⊎◌, inl, inr, max, Bool, true, false, cond, ◌&&◌, ◌||◌, ◌==◌, nat_lt, List, [], ◌∷◌, length, map, get_or, refl, sym, ap, subst, ◌∙◌, arith}
use Rattle.std.specs.List.{Contains, list_any, flat_map, range_with_len}
use Rattle.std.proofs.lemmas.Bool.{leb-true, le-leb}
use Rattle.std.proofs.lemmas.List.{get_or-map}
use Rattle.std.proofs.lemmas.List.Elements.{Contains-append_left, Contains-append_right, Contains-append_cases}
use Rattle.std.proofs.lemmas.List.FromFn.{length-range_with_len, get_or-range_with_len, length-map-range_with_len}
use Rattle.apx_device.specs.declared.vault.SaveId.{SaveId}
use Rattle.apx_history.specs.declared.Line.{Line}
use Rattle.apx_history.specs.Plan.{Plan, no_line, line, last_checkpoint, splits_op, boundary_in, boundary_at, number}
use Rattle.apx_history.proofs.Tests.{both, test, alike, which_max}
use Rattle.apx_history.proofs.Conditions.{all_true, equal_at, equal_by}
use Rattle.apx_history.proofs.Lines.{limit-start, limit-le, limit-is, boundary-above, boundary-by}
use Rattle.apx_history.proofs.Finding.{last_le}
use Rattle.apx_promise.specs.Checkpoints.{is_split_at, reach, IsOfPart, saves_in, saves_after, all_saves}
use Rattle.apx_promise.specs.Laws.{LastSavesAreExact}

-- ---- lists of something of each number

plain : (k : ℕ) → 0 + k ≡ k
plain k = omega arith

module _ {X : Type 0} where
  -- what stands in a list of something of each number below n
  of_number : (f : ℕ → X) (n : ℕ) (x : X) → Contains (map f (range_with_len 0 n)) x → (i : ℕ) × (i < n) × (f i ≡ x)
  of_number f n x h =
      let len = length-map-range_with_len f 0 n in
      let low : h.0 < n = (let a = h.1 in omega arith) in
      let same : get_or (range_with_len 0 n) h.0 0 ≡ h.0 = get_or-range_with_len 0 n h.0 0 low ∙ plain h.0 in
      let at : get_or (map f (range_with_len 0 n)) h.0 x ≡ f (get_or (range_with_len 0 n) h.0 0) =
      get_or-map f (range_with_len 0 n) h.0 0 x (let a = length-range_with_len 0 n in omega arith) in
      (h.0, low, sym (at ∙ ap f same) ∙ h.2)

  to_number : (f : ℕ → X) (n i : ℕ) → i < n → Contains (map f (range_with_len 0 n)) (f i)
  to_number f n i low =
      let len = length-range_with_len 0 n in
      let same : get_or (range_with_len 0 n) i 0 ≡ i = get_or-range_with_len 0 n i 0 low ∙ plain i in
      let at : get_or (map f (range_with_len 0 n)) i (f i) ≡ f (get_or (range_with_len 0 n) i 0) =
      get_or-map f (range_with_len 0 n) i 0 (f i) (omega arith) in
      (i, (let a = length-map-range_with_len f 0 n in omega arith), at ∙ ap f same)

  -- what stands in lists one behind the other
  of_lists : (f : ℕ → List X) (ns : List ℕ) (x : X) → Contains (flat_map f ns) x → (k : ℕ) × (k < length ns) × Contains (f (get_or ns k 0)) x
  of_lists f [] x h = absurd (let a = h.1 in omega arith)
  of_lists f (n ∷ ns) x h = elim (Contains-append_cases (f n) (flat_map f ns) x h) [
    | inl here ↦ (0, omega arith, here)
    | inr there ↦ let rest = of_lists f ns x there in (suc rest.0, (let a = rest.1 in omega arith), rest.2)
  ]

  to_lists : (f : ℕ → List X) (ns : List ℕ) (x : X) (k : ℕ) → k < length ns → Contains (f (get_or ns k 0)) x → Contains (flat_map f ns) x
  to_lists f [] x k low h = absurd (omega arith)
  to_lists f (n ∷ ns) x zero low h = Contains-append_left (f n) (flat_map f ns) x h
  to_lists f (n ∷ ns) x (suc k) low h = Contains-append_right (f n) (flat_map f ns) x (to_lists f ns x k (omega arith) h)

  -- the same of each number below n
  of_each : (f : ℕ → List X) (n : ℕ) (x : X) → Contains (flat_map f (range_with_len 0 n)) x → (k : ℕ) × (k < n) × Contains (f k) x
  of_each f n x h =
      let at = of_lists f (range_with_len 0 n) x h in
      let low : at.0 < n = (let a = at.1 in let b = length-range_with_len 0 n in omega arith) in
      (at.0, low, subst (λ k. Contains (f k) x) (get_or-range_with_len 0 n at.0 0 low ∙ plain at.0) at.2)

  to_each : (f : ℕ → List X) (n : ℕ) (x : X) (k : ℕ) → k < n → Contains (f k) x → Contains (flat_map f (range_with_len 0 n)) x
  to_each f n x k low h =
      to_lists f (range_with_len 0 n) x k (let b = length-range_with_len 0 n in omega arith)
      (subst (λ j. Contains (f j) x) (sym (get_or-range_with_len 0 n k 0 low ∙ plain k)) h)

-- ---- lines that repartition

-- a line of those that pass
any_at : (p : Line → Bool) (ls : List Line) → list_any p ls ≡ true → (k : ℕ) × (k < length ls) × (p (get_or ls k no_line) ≡ true)
any_at p [] h = cc
any_at p (l ∷ ls) h = elim (test (p l)) [
  | inl s ↦ (0, omega arith, s)
  | inr s ↦ let rest = any_at p ls (later (p l) s h) in (suc rest.0, (let a = rest.1 in omega arith), rest.2)
]
  where
    later : (b : Bool) → b ≡ false → (b || list_any p ls) ≡ true → list_any p ls ≡ true
    later true s h = cc
    later false s h = h

any_by : (p : Line → Bool) (ls : List Line) (k : ℕ) → k < length ls → p (get_or ls k no_line) ≡ true → list_any p ls ≡ true
any_by p [] k low h = absurd (omega arith)
any_by p (l ∷ ls) zero low h = ap (λ b. b || list_any p ls) h
any_by p (l ∷ ls) (suc k) low h = by (p l) (any_by p ls k (omega arith) h)
  where
    by : (b : Bool) → list_any p ls ≡ true → (b || list_any p ls) ≡ true
    by true r = refl
    by false r = r

-- a boundary is 0 or the window of a repartition before
pub boundary_is : (o w : ℕ) (ls : List Line) → (boundary_in ls o w ≡ 0)
    ⊎ ((k : ℕ) × (k < length ls) × (splits_op o (get_or ls k no_line) ≡ true) × ((get_or ls k no_line).window ≡ boundary_in ls o w) × (boundary_in ls o w < w))
unfolding boundary_in
boundary_is o w [] = inl refl
boundary_is o w (l ∷ ls) = by (splits_op o l) (nat_lt l.window w) refl refl (boundary_is o w ls) (which_max l.window (boundary_in ls o w))
  where
    by : (s t : Bool) → s ≡ splits_op o l → t ≡ nat_lt l.window w →
        (boundary_in ls o w ≡ 0) ⊎ ((k : ℕ) × (k < length ls) × (splits_op o (get_or ls k no_line) ≡ true) × ((get_or ls k no_line).window ≡ boundary_in ls o w) × (boundary_in ls o w < w)) →
        (max l.window (boundary_in ls o w) ≡ l.window) ⊎ (max l.window (boundary_in ls o w) ≡ boundary_in ls o w) →
        (cond (s && t) (max l.window (boundary_in ls o w)) (boundary_in ls o w) ≡ 0)
        ⊎ ((k : ℕ) × (k < length (l ∷ ls)) × (splits_op o (get_or (l ∷ ls) k no_line) ≡ true) × ((get_or (l ∷ ls) k no_line).window ≡ cond (s && t) (max l.window (boundary_in ls o w)) (boundary_in ls o w))
        × (cond (s && t) (max l.window (boundary_in ls o w)) (boundary_in ls o w) < w))
    by true true e f r (inl m) = inr (0, omega arith, sym e, sym m, (let a = leb-true (suc l.window) w (sym f) in omega arith))
    by true true e f (inl r) (inr m) = inl (m ∙ r)
    by true true e f (inr r) (inr m) = inr (suc r.0, omega (arith, r.1), r.2, r.3 ∙ sym m, omega (arith, r.4))
    by true false e f (inl r) m = inl r
    by true false e f (inr r) m = inr (suc r.0, omega (arith, r.1), r.2, r.3, r.4)
    by false t e f (inl r) m = inl r
    by false t e f (inr r) m = inr (suc r.0, omega (arith, r.1), r.2, r.3, r.4)

pub not_more : (a b : ℕ) → (a < b → ⊥) → b ≤ a
not_more a b h = omega (arith, h)

-- ---- epochs

module _ (plan : Plan) where
  -- line k repartitions operator o
  abbrev pub SplitsAt : ℕ → ℕ → Type 0
  SplitsAt o k = (k < length plan.lines) × (splits_op o (line plan k) ≡ true)

  -- the window of a repartition behind the boundary isn't before the end of the epoch
  pub reach-le : (o b k : ℕ) → SplitsAt o k → b < (line plan k).window → reach plan o b ≤ (line plan k).window
  reach-le o b k at more =
      limit-le o plan.lines (map (λ l. nat_lt b l.window) plan.lines) plan.windows k at.0
      (get_or-map (λ l. nat_lt b l.window) plan.lines k no_line false at.0 ∙ le-leb (suc b) (line plan k).window more) at.1

  -- a window that isn't behind such a one, nor behind the last, is no later than the end of the epoch
  pub reach-by : (o b w : ℕ) → w ≤ plan.windows → ((k : ℕ) → SplitsAt o k → b < (line plan k).window → w ≤ (line plan k).window) → w ≤ reach plan o b
  reach-by o b w last h = elim (limit-is o plan.lines (map (λ l. nat_lt b l.window) plan.lines) plan.windows) [
    | inl is ↦ omega arith
    | inr at ↦
        let more : b < (line plan at.0).window = leb-true (suc b) (line plan at.0).window (sym (get_or-map (λ l. nat_lt b l.window) plan.lines at.0 no_line false at.1) ∙ at.2) in
        let here = h at.0 (at.1, at.3) more in
        let is = at.4 in
        omega arith
  ]

  pub reach-last : (o b : ℕ) → reach plan o b ≤ plan.windows
  reach-last o b = limit-start o plan.lines (map (λ l. nat_lt b l.window) plan.lines) plan.windows

  -- a repartition at a window
  pub split_at : (o w : ℕ) → is_split_at plan o w ≡ true → (k : ℕ) × SplitsAt o k × ((line plan k).window ≡ w)
  split_at o w h =
      let at = any_at (λ l. splits_op o l && l.window == w) plan.lines h in
      let parts = both (splits_op o (line plan at.0)) ((line plan at.0).window == w) at.2 in
      (at.0, (at.1, parts.0), equal_at (line plan at.0).window w parts.1)

  pub split_by : (o w k : ℕ) → SplitsAt o k → (line plan k).window ≡ w → is_split_at plan o w ≡ true
  split_by o w k at is = any_by (λ l. splits_op o l && l.window == w) plan.lines k at.0 (all_true at.1 (equal_by (line plan k).window w is))

  -- an epoch that has a window is the one that the window lies in
  pub epoch_of : (o b w : ℕ) → (b ≡ 0) ⊎ (is_split_at plan o b ≡ true) → b < w → w ≤ reach plan o b → boundary_at plan o w ≡ b
  epoch_of o b w begins less within =
      let most : boundary_at plan o w ≤ b = boundary-by o plan.lines w b (λ k low splits before.
      not_more b (line plan k).window (λ more. (let far = reach-le o b k (low, splits) more in omega arith))) in
      let least : b ≤ boundary_at plan o w = elim begins [
        | inl first ↦ omega arith
        | inr split ↦ (let at = split_at o b split in
            let up = boundary-above o plan.lines w at.0 at.1.0 at.1.1 (let e = at.2 in omega arith) in
            let e = at.2 in
            omega arith)
      ] in
      omega arith

  -- the epoch that a window lies in has it
  pub epoch_has : (o w : ℕ) → w ≤ plan.windows → w ≤ reach plan o (boundary_at plan o w)
  epoch_has o w last = reach-by o (boundary_at plan o w) w last (λ k at more.
      not_more (line plan k).window w (λ less. (let up = boundary-above o plan.lines w k at.0 at.1 less in omega arith)))

  -- it begins at window 0 or where the operator is repartitioned, and not behind the window
  pub epoch_begins : (o w : ℕ) → (boundary_at plan o w ≡ 0) ⊎ (is_split_at plan o (boundary_at plan o w) ≡ true)
  epoch_begins o w = elim (boundary_is o w plan.lines) [
    | inl first ↦ inl first
    | inr at ↦ inr (split_by o (boundary_at plan o w) at.0 (at.1, at.2) at.3)
  ]

  pub epoch_before : (o w : ℕ) → boundary_at plan o w ≤ w
  epoch_before o w = boundary-by o plan.lines w w (λ k low splits before. omega arith)

  -- ---- the list

  module _ (w : ℕ) (positive : 0 < w) (last : w ≤ plan.windows) where
    -- what stands in the list of an epoch
    of_epoch : (o b : ℕ) (id : SaveId) → o < length plan.operators → (b ≡ 0) ⊎ (is_split_at plan o b ≡ true) → b ≤ w → w ≤ reach plan o b →
        Contains (saves_in plan w o b) id → IsOfPart plan id × (id.window ≡ w)
    of_epoch o b id there begins begun reached h =
        let at = of_number (λ (i : ℕ). record { op = o; boundary = b; part = i; window = w }) (number plan o b) id h in
        subst (λ (x : SaveId). IsOfPart plan x × (x.window ≡ w)) at.2
        (record { op = there; boundary = begins; part = at.1; begun = begun; reached = reached }, refl)

    of_operator : (o : ℕ) (id : SaveId) → o < length plan.operators → Contains (saves_after plan w o) id → IsOfPart plan id × (id.window ≡ w)
    of_operator o id there h = elim (Contains-append_cases (saves_in plan w o (boundary_at plan o w)) (cond (is_split_at plan o w) (saves_in plan w o w) []) id h) [
      | inl here ↦ of_epoch o (boundary_at plan o w) id there (epoch_begins o w) (epoch_before o w) (epoch_has o w last) here
      | inr next ↦ begun (is_split_at plan o w) refl next
    ]
      where
        begun : (b : Bool) → b ≡ is_split_at plan o w → Contains (cond b (saves_in plan w o w) []) id → IsOfPart plan id × (id.window ≡ w)
        begun true is here = of_epoch o w id there (inr (sym is)) (omega arith) (reach-by o w w last (λ k at more. omega arith)) here
        begun false is here = absurd (let a = here.1 in omega arith)

    pub of_saves : (id : SaveId) → Contains (all_saves plan w) id → IsOfPart plan id × (id.window ≡ w)
    of_saves id h =
        let at = of_each (saves_after plan w) (length plan.operators) id
        (subst (λ b. Contains (cond b (flat_map (saves_after plan w) (range_with_len 0 (length plan.operators))) []) id) (le-leb 1 w positive) h) in
        of_operator at.0 id at.1 at.2

    to_epoch : (id : SaveId) → IsOfPart plan id → id.window ≡ w → Contains (saves_in plan w id.op id.boundary) id
    to_epoch id of is =
        let f : ℕ → SaveId = λ (i : ℕ). record { op = id.op; boundary = id.boundary; part = i; window = w } in
        let same : f id.part ≡ id = ap (λ (v : ℕ). record { op = id.op; boundary = id.boundary; part = id.part; window = v }) (sym is) in
        subst (λ (x : SaveId). Contains (saves_in plan w id.op id.boundary) x) same (to_number f (number plan id.op id.boundary) id.part of.part)

    to_operator : (id : SaveId) → IsOfPart plan id → id.window ≡ w → Contains (saves_after plan w id.op) id
    to_operator id of is = elim (alike id.boundary w) [
      | inl begins ↦ elim of.boundary [
        | inl first ↦ absurd (omega arith)
        | inr split ↦ Contains-append_right (saves_in plan w id.op (boundary_at plan id.op w)) (cond (is_split_at plan id.op w) (saves_in plan w id.op w) []) id
            (subst (λ b. Contains (cond b (saves_in plan w id.op w) []) id) (sym (subst (λ v. is_split_at plan id.op v ≡ true) begins split))
            (subst (λ v. Contains (saves_in plan w id.op v) id) begins (to_epoch id of is)))
      ]
      | inr other ↦
          let epoch = epoch_of id.op id.boundary w of.boundary (let a = of.begun in omega arith) (let a = of.reached in omega arith) in
          Contains-append_left (saves_in plan w id.op (boundary_at plan id.op w)) (cond (is_split_at plan id.op w) (saves_in plan w id.op w) []) id
          (subst (λ v. Contains (saves_in plan w id.op v) id) (sym epoch) (to_epoch id of is))
    ]

    pub to_saves : (id : SaveId) → IsOfPart plan id → id.window ≡ w → Contains (all_saves plan w) id
    to_saves id of is =
        subst (λ b. Contains (cond b (flat_map (saves_after plan w) (range_with_len 0 (length plan.operators))) []) id) (sym (le-leb 1 w positive))
        (to_each (saves_after plan w) (length plan.operators) id id.op of.op (to_operator id of is))

-- after window 0 there is none
none_after : (plan : Plan) (w : ℕ) (id : SaveId) → Contains (all_saves plan w) id → 0 < w
none_after plan zero id h = absurd (let a = h.1 in omega arith)
none_after plan (suc w) id h = omega arith

pub last-saves-are-exact : LastSavesAreExact
last-saves-are-exact plan id is = (
  λ h.
      let w = last_checkpoint plan plan.windows in
      let positive = none_after plan w id h in
      let at = of_saves plan w positive (last_le plan is plan.windows) id h in
      record { of_part = at.0; last = at.1; positive = (let e = at.1 in omega arith) },
  λ h.
      let w = last_checkpoint plan plan.windows in
      to_saves plan w (let e = h.last in let a = h.positive in omega arith) (last_le plan is plan.windows) id h.of_part h.last,
)
