-- What is looked up once of a state, in the words of the table.
use Rattle.std.proofs.Common.{◌≡◌, ℕ, zero, suc, ◌+◌, ◌*◌, ◌<◌, ◌≤◌, ◌⊎◌, inl, inr, min, Bool, true, false, cond, not, ◌&&◌, ◌||◌, ◌==◌, nat_le, List, [], ◌∷◌, length, get_or, set, refl, sym, ap, subst, ◌∙◌, arith}
use Rattle.std.proofs.lemmas.List.{get_or-set_other}
use Rattle.std.proofs.lemmas.Grind.{get_or-set_at}
use Rattle.std.proofs.lemmas.Bool.{leb-true, le-leb}
use Rattle.apx_history.specs.declared.Act.{Act}
use Rattle.apx_history.specs.declared.Act.TheVariants.{Fails, Splits}
use Rattle.apx_history.specs.Plan.{Plan, line, reads, below, kills}
use Rattle.apx_history.specs.State.{State, slot, parts, is_left, all_below, all_parts, all_slots, lowest, lowest_slot}
use Rattle.apx_history.specs.Enabled.{due, in_tree, at_act, is_part, at_point, calm_above, sources_have, readers_rc, readers_reach}
use Rattle.apx_history.specs.Kept.{IsPlan, Kept}
use Rattle.apx_history.proofs.Tests.{test, both, not_true, alike}
use Rattle.apx_history.proofs.Conditions.{part_at, equal_by, equal_at, all_true}
use Rattle.apx_machine.specs.Small.{IsSmall}
use Rattle.apx_machine.specs.declared.outlook.Toward.TheVariants.{Sources, Readers}
use Rattle.apx_machine.specs.Outlook.{asked, least_of, calm_to, clear_to}

-- ---- each number below n

pub all_suc : (p : ℕ → Bool) (k : ℕ) → all_below (k + 1) p ≡ (p k && all_below k p)
unfolding all_below
all_suc p k =
    let e : suc k ≡ k + 1 = omega arith in
    subst (λ (n : ℕ). all_below n p ≡ (p k && all_below k p)) e refl

all_same : (p q : ℕ → Bool) (n : ℕ) → ((k : ℕ) → p k ≡ q k) → all_below n p ≡ all_below n q
unfolding all_below
all_same p q zero h = refl
all_same p q (suc n) h = ap (λ (b : Bool). b && all_below n p) (h n) ∙ ap (λ (b : Bool). q n && b) (all_same p q n h)

-- two tests of the same lines
all_split : (d a b : ℕ → Bool) (n : ℕ) → all_below n (λ l. not (d l && (a l || b l))) ≡ (all_below n (λ l. not (d l && a l)) && all_below n (λ l. not (d l && b l)))
unfolding all_below
all_split d a b zero = refl
all_split d a b (suc n) = by (d n) (a n) (b n) _ _ _ (all_split d a b n)
  where
    by : (d a b x y z : Bool) → x ≡ (y && z) → (not (d && (a || b)) && x) ≡ ((not (d && a) && y) && (not (d && b) && z))
    by false a b x y z h = h
    by true true b x y z h = refl
    by true false true x true z h = refl
    by true false true x false z h = refl
    by true false false x y z h = h

pub calm_above_is : (plan : Plan) (m : State) (o i : ℕ) →
    (calm_to plan m (length plan.lines) o i && clear_to plan m (length plan.lines) o) ≡ calm_above plan m o i
unfolding calm_above in_tree
calm_above_is plan m o i = sym (all_split (due plan m) (λ l. kills o i (line plan l)) (λ l. below plan (line plan l).op o) (length plan.lines))

-- ---- the least

lowest_most : (f : ℕ → ℕ) (d n : ℕ) → lowest n f d ≤ d
unfolding lowest
lowest_most f d zero = omega arith
lowest_most f d (suc n) = let a = lowest_most f d n in omega arith

le_min : (w a b : ℕ) → nat_le w (min a b) ≡ (nat_le w a && nat_le w b)
le_min w a b = by (test (nat_le w (min a b)))
  where
    by : (nat_le w (min a b) ≡ true) ⊎ (nat_le w (min a b) ≡ false) → nat_le w (min a b) ≡ (nat_le w a && nat_le w b)
    by (inl t) = let h = leb-true w (min a b) t in t ∙ sym (all_true (le-leb w a (omega arith)) (le-leb w b (omega arith)))
    by (inr f) = f ∙ sym (not_true (nat_le w a && nat_le w b) (λ t.
        (let g = both (nat_le w a) (nat_le w b) t in
        let c = leb-true w a g.0 in
        let d = leb-true w b g.1 in
        let e : true ≡ false = sym (le-leb w (min a b) (omega arith)) ∙ f in cc)))

le_lowest : (f : ℕ → ℕ) (d w n : ℕ) → w ≤ d → nat_le w (lowest n f d) ≡ all_below n (λ k. nat_le w (f k))
unfolding lowest all_below
le_lowest f d w zero h = le-leb w d h
le_lowest f d w (suc n) h = le_min w (f n) (lowest n f d) ∙ ap (λ (b : Bool). nat_le w (f n) && b) (le_lowest f d w n h)

le_slots : (m : State) (t : ℕ → Bool) (f : ℕ → ℕ → ℕ) (d w : ℕ) → w ≤ d →
    nat_le w (lowest_slot m (λ o i. cond (t o) (f o i) d) d) ≡ all_slots m (λ o i. not (t o) || nat_le w (f o i))
le_slots m t f d w h =
    le_lowest (λ o. lowest (parts m o) (λ i. cond (t o) (f o i) d) d) d w (length m.ops) h
    ∙ all_same (λ o. nat_le w (lowest (parts m o) (λ i. cond (t o) (f o i) d) d)) (λ o. all_parts m o (λ i. not (t o) || nat_le w (f o i))) (length m.ops)
    (λ o. le_lowest (λ i. cond (t o) (f o i) d) d w (parts m o) h
    ∙ all_same (λ i. nat_le w (cond (t o) (f o i) d)) (λ i. not (t o) || nat_le w (f o i)) (parts m o) (λ i. one (t o) (f o i)))
  where
    one : (b : Bool) (x : ℕ) → nat_le w (cond b x d) ≡ (not b || nat_le w x)
    one true x = refl
    one false x = le-leb w d h

module _ (plan : Plan) (m : State) (o : ℕ) where
  pub sources_are : (w d : ℕ) → w ≤ d → nat_le w (least_of plan m Sources o d) ≡ sources_have plan m o w
  unfolding sources_have
  sources_are w d h = le_slots m (λ s. reads plan o s) (λ s j. (slot m s j).at) d w h

  pub readers_are : (w d : ℕ) → w ≤ d → nat_le w (least_of plan m Readers o d) ≡ readers_reach plan m o w
  unfolding readers_reach
  readers_are w d h = le_slots m (λ r. reads plan r o) (λ r j. (slot m r j).rc) d w h

  -- the least of a lesser number is the lesser of it and the least of a greater one
  pub readers_least : (n d : ℕ) → n ≤ d → min n (least_of plan m Readers o d) ≡ readers_rc plan m o n
  unfolding readers_rc
  readers_least n d h =
      let x : ℕ = least_of plan m Readers o n in
      let y : ℕ = least_of plan m Readers o d in
      let most : x ≤ n = lowest_most (λ t. lowest (parts m t) (asked plan m Readers o n t) n) n (length m.ops) in
      let up : x ≤ y = leb-true x y (readers_are x d (omega arith) ∙ sym (readers_are x n most) ∙ le-leb x x (omega arith)) in
      let z : ℕ = min n y in
      let down : z ≤ x = leb-true z x (readers_are z n (omega arith) ∙ sym (readers_are z d (omega arith)) ∙ le-leb z y (omega arith)) in
      let same : min n y ≡ x = omega arith in same

-- ---- operators and partitions that are there

pub few_ops : (plan : Plan) (m : State) → IsSmall plan → Kept plan m → (o : ℕ) → o < length m.ops → o < 16
few_ops plan m small kept o h = let a = small.operators in let b = kept.ops in omega arith

pub act_there : (plan : Plan) (m : State) (o w : ℕ) (a : Act) → at_act plan m o w a ≡ true → o < length m.ops
act_there plan m o w (Fails point part) h = (part_at m o part (both (is_part m o part) (at_point plan m o point w (slot m o part)) h).0).0
act_there plan m o w (Splits count) h = absurd (let e : false ≡ true = h in cc)

pub left_there : (plan : Plan) (m : State) → IsPlan plan → Kept plan m → (l : ℕ) → is_left m l ≡ true → (line plan l).op < length m.ops
left_there plan m is kept l h =
    let here : l < length m.left = flagged m.left l h in
    let op = is.op l (let a = kept.flags in omega arith) in
    let b = kept.ops in omega arith
  where
    flagged : (bs : List Bool) (k : ℕ) → get_or bs k false ≡ true → k < length bs
    flagged [] k g = absurd (let e : false ≡ true = g in cc)
    flagged (b ∷ bs) zero g = omega arith
    flagged (b ∷ bs) (suc k) g = let r = flagged bs k g in omega arith

-- ---- what is struck out

module _ (xs : List Bool) (fits : 128 ≤ length xs) where
  pub struck : (op part o i : ℕ) → op < 16 → part < 8 → o < 16 → i < 8 →
      get_or (set xs (8 * op + part) false) (8 * o + i) false ≡ (not (op == o && part == i) && get_or xs (8 * o + i) false)
  struck op part o i a b c d = by (alike (8 * op + part) (8 * o + i))
    where
      by : (8 * op + part ≡ 8 * o + i) ⊎ (8 * op + part ≡ 8 * o + i → ⊥) →
          get_or (set xs (8 * op + part) false) (8 * o + i) false ≡ (not (op == o && part == i) && get_or xs (8 * o + i) false)
      by (inl e) =
          let same : (op == o && part == i) ≡ true = all_true (equal_by op o (omega arith)) (equal_by part i (omega arith)) in
          get_or-set_at xs (8 * op + part) (8 * o + i) false false (sym e) (omega arith) ∙ sym (ap (λ (b : Bool). not b && get_or xs (8 * o + i) false) same)
      by (inr n) =
          let other : (op == o && part == i) ≡ false = not_true (op == o && part == i) (λ t. apart (both (op == o) (part == i) t)) in
          get_or-set_other xs (8 * op + part) (8 * o + i) false false (λ e. n (sym e)) ∙ sym (ap (λ (b : Bool). not b && get_or xs (8 * o + i) false) other)
        where
          apart : ((op == o) ≡ true) × ((part == i) ≡ true) → ⊥
          apart t = n (let f = equal_at op o t.0 in let g = equal_at part i t.1 in omega arith)

-- one more number is set
pub set_more : (xs : List ℕ) (k v : ℕ) (f : ℕ → ℕ) → k < length xs → v ≡ f k → ((o : ℕ) → o < k → get_or xs o 0 ≡ f o) →
    (o : ℕ) → o < k + 1 → get_or (set xs k v) o 0 ≡ f o
set_more xs k v f h e done o r = by (alike o k)
  where
    by : (o ≡ k) ⊎ (o ≡ k → ⊥) → get_or (set xs k v) o 0 ≡ f o
    by (inl s) = get_or-set_at xs k o v 0 s h ∙ e ∙ ap f (sym s)
    by (inr n) = get_or-set_other xs k o v 0 n ∙ done o (omega arith)
