-- Repartition keeps what every state keeps.
use Rattle.std.proofs.Common.{◌≡◌, ℕ, zero, suc, ◌+◌, ◌<◌, ◌≤◌, ◌⊎◌, inl, inr, Bool, true, false, cond, not, ◌&&◌, ◌||◌, ◌==◌, nat_le, List, [], ◌∷◌, length, get_or, set, replicate, refl, sym, ap, subst, ◌∙◌, arith, Option, None, Some}
use Rattle.std.proofs.Math.ListN.{length-set, length-replicate}
use Rattle.std.proofs.lemmas.List.{get_or-set_same, get_or-set_other}
use Rattle.std.proofs.lemmas.Bool.Decides.{nat_tests}
use Rattle.apx_history.specs.Plan.{Point, Before, Done, Act, Fails, Splits, Plan, has, operator, line, reads, is_checkpoint, splits, splits_op, count_or, number}
use Rattle.apx_history.specs.State.{Slot, Oper, State, fresh, no_oper, oper, parts, slot, IsPart, is_left, open_window}
use Rattle.apx_history.specs.Enabled.{limit}
use Rattle.apx_history.specs.Effects.{meet, split}
use Rattle.apx_history.specs.Conditions.{CanRepartition}
use Rattle.apx_history.specs.Kept.{IsAct, IsPlan, Sound, Ordered, IsAhead, ActAhead, Kept}
use Rattle.apx_history.proofs.Tests.{both, alike}
use Rattle.apx_history.proofs.Conditions.{all_true, equal_at, equal_by}
use Rattle.apx_history.proofs.Lines.{flag_was, flag_other, flag_cleared, limit-start, limit-le, limit-same, limit-cleared, number-is}
use Rattle.apx_history.proofs.Frames.{line_there, op_there, reads_there, some_part, named_part}
use Rattle.apx_history.proofs.Keeps.{none_open}

-- a partition that rests behind window b, or none
pub record Rests (b : ℕ) (x : Slot) : Type 0 where
  pub at : x.at ≤ b
  pub closed : x.opened ≡ None

pub fresh_rests : (b n i : ℕ) → Rests b (get_or (replicate n (fresh b)) i (fresh 0))
fresh_rests b zero i = record { at = omega arith; closed = refl }
fresh_rests b (suc n) zero = record { at = omega arith; closed = refl }
fresh_rests b (suc n) (suc i) = fresh_rests b n i

pub fresh_at : (b n i : ℕ) → i < n → get_or (replicate n (fresh b)) i (fresh 0) ≡ fresh b
fresh_at b zero i h = absurd (omega arith)
fresh_at b (suc n) zero h = refl
fresh_at b (suc n) (suc i) h = fresh_at b n i (omega arith)

clash : true ≡ false → ⊥
clash h = cc

not_at_most : (a b : ℕ) → (b ≤ a → ⊥) → a < b
not_at_most a b h = omega (arith, h)

module _ (plan : Plan) (is : IsPlan plan) (m : State) (kept : Kept plan m) (l : ℕ) (can : CanRepartition plan m l) where
  abbrev o : ℕ
  o = (line plan l).op

  abbrev b : ℕ
  b = (line plan l).window

  abbrev n : ℕ
  n = count_or 0 (line plan l).act

  abbrev after : State
  after = meet l (split o b n m)

  l_there : l < length plan.lines
  l_there = line_there plan is m kept l can.left

  o_there : o < length m.ops
  o_there = op_there plan is m kept l l_there

  acts : (w : ℕ) (a : Act) → splits a ≡ true → IsAct plan o w a → (is_checkpoint plan w ≡ true) × (o ≡ plan.sink → ⊥) × (0 < count_or 0 a)
  acts w (Splits count) s h = h
  acts w (Fails point part) s h = cc

  act : (is_checkpoint plan b ≡ true) × (o ≡ plan.sink → ⊥) × (0 < n)
  act = acts b (line plan l).act can.splits (is.act l l_there)

  -- the first partition of the operator rests at b
  first : IsPart m o 0
  first = (o_there, some_part plan is m kept o o_there)

  rests_at : (i : ℕ) → i < parts m o → ((slot m o i).at ≡ b) × ((slot m o i).rc ≡ b) × ((slot m o i).opened ≡ None)
  rests_at i r =
      let s = kept.each o i (o_there, r) in
      let e = can.rests i r in
      (let a = s.rc in let c = s.at in let d = e.0 in let f = can.window in omega arith, e.0, e.1)

  -- ---- how the new state is read

  oper_new : oper after o ≡ record { boundary = b; parts = replicate n (fresh b) }
  unfolding meet split
  oper_new = get_or-set_same m.ops o (record { boundary = b; parts = replicate n (fresh b) }) no_oper o_there

  oper_old : (p : ℕ) → (p ≡ o → ⊥) → oper after p ≡ oper m p
  unfolding meet split
  oper_old p h = get_or-set_other m.ops o p (record { boundary = b; parts = replicate n (fresh b) }) no_oper h

  ops_same : length after.ops ≡ length m.ops
  unfolding meet split
  ops_same = length-set m.ops o (record { boundary = b; parts = replicate n (fresh b) })

  slot_rests : (i : ℕ) → Rests b (slot after o i)
  slot_rests i = subst (λ (q : Oper). Rests b (get_or q.parts i (fresh 0))) (sym oper_new) (fresh_rests b n i)

  slot_new : (i : ℕ) → IsPart after o i → slot after o i ≡ fresh b
  slot_new i r =
      let e = ap (λ (q : Oper). length q.parts) oper_new ∙ length-replicate n (fresh b) in
      ap (λ (q : Oper). get_or q.parts i (fresh 0)) oper_new ∙ fresh_at b n i (let a = r.1 in omega arith)

  part_old : (p i : ℕ) → (p ≡ o → ⊥) → IsPart after p i → IsPart m p i
  part_old p i h r =
      let e = ops_same in
      let f = ap (λ (q : Oper). length q.parts) (oper_old p h) in
      ((let a = r.0 in omega arith), (let a = r.1 in omega arith))

  -- ---- lines

  not_met : (k : ℕ) → is_left after k ≡ true → k ≡ l → ⊥
  unfolding meet split
  not_met k h e = clash (sym h ∙ ap (λ (j : ℕ). get_or (set m.left l false) j false) e ∙ flag_cleared m.left l)

  was_left : (k : ℕ) → is_left after k ≡ true → is_left m k ≡ true
  unfolding meet split
  was_left k h = flag_was m.left l k h

  still_left : (k : ℕ) → (k ≡ l → ⊥) → is_left m k ≡ true → is_left after k ≡ true
  unfolding meet split
  still_left k ne h = flag_other m.left l k ne ∙ h

  limit_old : (p : ℕ) → (p ≡ o → ⊥) → limit plan after p ≡ limit plan m p
  unfolding meet split
  limit_old p h = limit-same p plan.lines m.left plan.windows l (off (splits (line plan l).act) (o == p) (λ e. h (sym (equal_at o p e))))
    where
      off : (s t : Bool) → (t ≡ true → ⊥) → (s && t) ≡ false
      off true true h = absurd (h refl)
      off true false h = refl
      off false t h = refl

  limit_new : b ≤ limit plan after o
  unfolding meet split
  limit_new = let a = limit-cleared o plan.lines m.left plan.windows l in let e = can.window in omega arith

  -- another line of the operator that is left has a later window
  later : (k : ℕ) → is_left m k ≡ true → (k ≡ l → ⊥) → (line plan k).op ≡ o → b < (line plan k).window
  later k h ne e = not_at_most b (line plan k).window (λ le. by (line plan k).act refl le)
    where
      v : ℕ
      v = (line plan k).window

      by : (a : Act) → (line plan k).act ≡ a → (line plan k).window ≤ b → ⊥
      by (Splits count) f le =
          let s : splits (line plan k).act ≡ true = ap splits f in
          let on : splits_op o (line plan k) ≡ true = all_true s (equal_by (line plan k).op o e) in
          let low = limit-le o plan.lines m.left plan.windows k (line_there plan is m kept k h) h on in
          let w = can.window in
          ne (is.once o k l (line_there plan is m kept k h) l_there on (all_true can.splits (equal_by o o refl)) (omega arith))
      by (Fails point part) f le =
          let within : (line plan k).window ≤ limit plan m (line plan k).op = subst (λ (p : ℕ). (line plan k).window ≤ limit plan m p) (sym e) (let w = can.window in omega arith) in
          let r : IsPart m o part = subst (λ (p : ℕ). IsPart m p part) e (named_part plan is m kept k part point h f within) in
          let old : ActAhead m (limit plan m (line plan k).op) (line plan k).op (line plan k).window (Fails point part) =
          subst (λ (x : Act). ActAhead m (limit plan m (line plan k).op) (line plan k).op (line plan k).window x) f (kept.ahead k h) in
          let here : IsAhead point (line plan k).window (slot m o part) = subst (λ (p : ℕ). IsAhead point (line plan k).window (slot m p part)) e (old within) in
          let at = rests_at part r.1 in
          elim here [
            | inl g ↦ (let a = at.0 in let c = g.0 in omega arith)
            | inr g ↦ (let a = at.0 in let c : b ≡ (line plan k).window = sym a ∙ g.1 in
                clash (sym (subst (λ (j : ℕ). has (slot m o part).saved j ≡ true) (at.1 ∙ c) (kept.each o part r).rc_saved) ∙ g.3))
          ]

  -- ---- what is kept

  new_sound : Sound plan m.committed b (limit plan after o) (fresh b)
  unfolding has
  new_sound = record {
    committed = (let s = kept.each o 0 first in let a = s.committed in let e = (rests_at 0 first.1).1 in omega arith);
    rc = omega arith;
    at = limit_new;
    floor = omega arith;
    rc_saved = all_or (equal_by b b refl);
    saved = λ w h. (let e : b ≡ w = equal_at b w (one h) in
        let s = kept.each o 0 first in let a = s.committed in let f = (rests_at 0 first.1).1 in
        (subst (λ (k : ℕ). is_checkpoint plan k ≡ true) e act.0, omega arith, omega arith, omega arith));
    whole = λ w c a low h. absurd (omega arith);
    ascending = ((λ w h. (let e : false ≡ true = h in cc)), tt);
    opened = λ w h. absurd (none_open None refl h);
  }
    where
      all_or : {c : Bool} → c ≡ true → (c || false) ≡ true
      all_or h = ap (λ (c : Bool). c || false) h

      one : {c : Bool} → (c || false) ≡ true → c ≡ true
      one {c = true} h = refl
      one {c = false} h = h

  each : (p i : ℕ) → IsPart after p i → Sound plan m.committed (oper after p).boundary (limit plan after p) (slot after p i)
  each p i r = elim (alike p o) [
    | inl e ↦ subst (λ (q : ℕ). Sound plan m.committed (oper after q).boundary (limit plan after q) (slot after q i)) (sym e)
        (subst (λ (q : Oper). Sound plan m.committed q.boundary (limit plan after o) (slot after o i)) (sym oper_new)
        (subst (λ (x : Slot). Sound plan m.committed b (limit plan after o) x) (sym (slot_new i (subst (λ (q : ℕ). IsPart after q i) e r))) new_sound))
    | inr h ↦ subst (λ (q : Oper). Sound plan m.committed q.boundary (limit plan after p) (get_or q.parts i (fresh 0))) (sym (oper_old p h))
        (subst (λ (k : ℕ). Sound plan m.committed (oper m p).boundary k (slot m p i)) (sym (limit_old p h)) (kept.each p i (part_old p i h r)))
  ]

  loop : (p : ℕ) → reads plan p p ≡ true → ⊥
  loop p h = clash (sym (is.direct p p h) ∙ is.acyclic p)

  old_slot : (p i : ℕ) → (p ≡ o → ⊥) → slot after p i ≡ slot m p i
  old_slot p i h = ap (λ (q : Oper). get_or q.parts i (fresh 0)) (oper_old p h)

  ordered : (p s : ℕ) → reads plan p s ≡ true → (i j : ℕ) → IsPart after p i → IsPart after s j → Ordered (slot after s j) (slot after p i)
  ordered p s h i j r t = elim (alike p o) [
    | inl e ↦ elim (alike s o) [
      | inl f ↦ absurd (loop o (subst (λ (q : ℕ). reads plan q o ≡ true) e (subst (λ (q : ℕ). reads plan p q ≡ true) f h)))
      | inr ns ↦ subst (λ (q : ℕ). Ordered (slot after s j) (slot after q i)) (sym e)
          (subst (λ (x : Slot). Ordered (slot after s j) x) (sym (slot_new i (subst (λ (q : ℕ). IsPart after q i) e r)))
          (subst (λ (x : Slot). Ordered x (fresh b)) (sym (old_slot s j ns)) (source s j (subst (λ (q : ℕ). reads plan q s ≡ true) e h) (part_old s j ns t))))
    ]
    | inr np ↦ elim (alike s o) [
      | inl f ↦ subst (λ (q : ℕ). Ordered (slot after q j) (slot after p i)) (sym f)
          (subst (λ (x : Slot). Ordered x (slot after p i)) (sym (slot_new j (subst (λ (q : ℕ). IsPart after q j) f t)))
          (subst (λ (x : Slot). Ordered (fresh b) x) (sym (old_slot p i np)) (reader p i (subst (λ (q : ℕ). reads plan p q ≡ true) f h) (part_old p i np r))))
      | inr ns ↦ subst (λ (x : Slot). Ordered x (slot after p i)) (sym (old_slot s j ns))
          (subst (λ (x : Slot). Ordered (slot m s j) x) (sym (old_slot p i np)) (kept.ordered p s h i j (part_old p i np r) (part_old s j ns t)))
    ]
  ]
    where
      source : (s j : ℕ) → reads plan o s ≡ true → IsPart m s j → Ordered (slot m s j) (fresh b)
      source s j h t = let k = kept.ordered o s h 0 j first t in let e = (rests_at 0 first.1).1 in
          record { rc = (let a = k.rc in omega arith); floor = (let a = k.floor in omega arith); opened = λ w g. absurd (none_open None refl g) }

      reader : (p i : ℕ) → reads plan p o ≡ true → IsPart m p i → Ordered (fresh b) (slot m p i)
      reader p i h r = let k = kept.ordered p o h i 0 r first in let e = rests_at 0 first.1 in
          record { rc = (let a = k.rc in let c = e.1 in omega arith); floor = (let a = k.rc in let c = e.1 in omega arith); opened = λ w g. (let a = k.opened w g in let c = e.0 in omega arith) }

  ahead : (k : ℕ) → is_left after k ≡ true → ActAhead after (limit plan after (line plan k).op) (line plan k).op (line plan k).window (line plan k).act
  ahead k h = by (line plan k).act refl (alike (line plan k).op o)
    where
      by : (a : Act) → (line plan k).act ≡ a → ((line plan k).op ≡ o) ⊎ ((line plan k).op ≡ o → ⊥) → ActAhead after (limit plan after (line plan k).op) (line plan k).op (line plan k).window a
      by (Splits count) f d = tt
      by (Fails point part) f (inl e) = λ within.
          let w = later k (was_left k h) (not_met k h) e in
          let x = slot_rests part in
          let x' : Rests b (slot after (line plan k).op part) = subst (λ (p : ℕ). Rests b (slot after p part)) (sym e) x in
          inl ((let a = x'.at in omega arith), λ d g. none_open (slot after (line plan k).op part).opened x'.closed g)
      by (Fails point part) f (inr ne) = λ within.
          let old : ActAhead m (limit plan m (line plan k).op) (line plan k).op (line plan k).window (Fails point part) =
          subst (λ (x : Act). ActAhead m (limit plan m (line plan k).op) (line plan k).op (line plan k).window x) f (kept.ahead k (was_left k h)) in
          subst (λ (x : Slot). IsAhead point (line plan k).window x) (sym (old_slot (line plan k).op part ne))
          (old (subst (λ (j : ℕ). (line plan k).window ≤ j) (limit_old (line plan k).op ne) within))

  boundary_after : (p : ℕ) → (p ≡ o → ⊥) → (oper after p).boundary ≡ (oper m p).boundary
  boundary_after p h = ap (λ (q : Oper). q.boundary) (oper_old p h)

  boundary_here : (oper after o).boundary ≡ b
  boundary_here = ap (λ (q : Oper). q.boundary) oper_new

  lines : (k : ℕ) → is_left after k ≡ true → (oper after (line plan k).op).boundary < (line plan k).window
  lines k h = elim (alike (line plan k).op o) [
    | inl e ↦ subst (λ (p : ℕ). (oper after p).boundary < (line plan k).window) (sym e) (let a = boundary_here in let c = later k (was_left k h) (not_met k h) e in omega arith)
    | inr ne ↦ (let a = boundary_after (line plan k).op ne in let c = kept.lines k (was_left k h) in omega arith)
  ]

  still : (k : ℕ) → k < length plan.lines → splits (line plan k).act ≡ true → (oper after (line plan k).op).boundary < (line plan k).window → is_left after k ≡ true
  still k r s h = elim (alike (line plan k).op o) [
    | inl e ↦
        (let up : b < (line plan k).window = (let a = boundary_here in let g : (oper after o).boundary < (line plan k).window = subst (λ (p : ℕ). (oper after p).boundary < (line plan k).window) e h in omega arith) in
        let low = kept.lines l can.left in
        still_left k (λ f. (let g : (line plan k).window ≡ b = ap (λ (j : ℕ). (line plan j).window) f in omega arith))
        (kept.still k r s (subst (λ (p : ℕ). (oper m p).boundary < (line plan k).window) (sym e) (omega arith))))
    | inr ne ↦ (let a = boundary_after (line plan k).op ne in
        still_left k (λ f. ne (ap (λ (j : ℕ). (line plan j).op) f)) (kept.still k r s (omega arith)))
  ]

  number_here : number plan o b ≡ n
  number_here = number-is o plan.lines b (operator plan o).first n l l_there (all_true can.splits (equal_by o o refl)) refl
      (λ k r s e. ap (λ (j : ℕ). count_or (operator plan o).first (line plan j).act) (is.once o k l r l_there s (all_true can.splits (equal_by o o refl)) e) ∙ count_same (line plan l).act can.splits)
    where
      count_same : (a : Act) → splits a ≡ true → count_or (operator plan o).first a ≡ count_or 0 a
      count_same (Splits count) s = refl
      count_same (Fails point part) s = cc

  pub keeps_repartition : Kept plan (meet l (split (line plan l).op (line plan l).window (count_or 0 (line plan l).act) m))
  unfolding meet split
  keeps_repartition = record {
    ops = ops_same ∙ kept.ops;
    flags = length-set m.left l false ∙ kept.flags;
    each = each;
    ordered = ordered;
    sink = subst (λ (x : Slot). x.at ≤ m.stored) (sym (old_slot plan.sink 0 (λ e. act.1 (sym e)))) kept.sink;
    stored = kept.stored;
    lines = lines;
    ahead = ahead;
    still = still;
    boundary = λ p h. elim (alike p o) [
      | inl e ↦ inr (l, l_there, all_true can.splits (equal_by o p (sym e)), sym (subst (λ (q : ℕ). (oper after q).boundary ≡ b) (sym e) boundary_here))
      | inr ne ↦ subst (λ (c : ℕ). (c ≡ 0) ⊎ ((k : ℕ) × (k < length plan.lines) × (splits_op p (line plan k) ≡ true) × ((line plan k).window ≡ c))) (sym (boundary_after p ne))
          (kept.boundary p (let a = ops_same in omega arith))
    ];
    number = λ p h. elim (alike p o) [
      | inl e ↦ subst (λ (q : ℕ). parts after q ≡ number plan q (oper after q).boundary) (sym e)
          (ap (λ (q : Oper). length q.parts) oper_new ∙ length-replicate n (fresh b) ∙ sym number_here ∙ ap (λ (c : ℕ). number plan o c) (sym boundary_here))
      | inr ne ↦ ap (λ (q : Oper). length q.parts) (oper_old p ne) ∙ kept.number p (let a = ops_same in omega arith) ∙ ap (λ (c : ℕ). number plan p c) (sym (boundary_after p ne))
    ];
  }
