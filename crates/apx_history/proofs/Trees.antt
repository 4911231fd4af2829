-- Commit and Kill, which change many partitions, keep what every state keeps.
use Rattle.std.proofs.Common.{◌≡◌, ℕ, zero, suc, ◌+◌, ◌<◌, ◌≤◌, ◌⊎◌, inl, inr, Bool, true, false, cond, not, ◌&&◌, ◌||◌, ◌==◌, nat_le, List, [], ◌∷◌, length, get_or, set, refl, sym, ap, subst, ◌∙◌, arith, Option, None, Some}
use Rattle.std.proofs.Math.ListN.{length-set}
use Rattle.std.proofs.lemmas.Bool.{leb-true, le-leb}
use Rattle.std.specs.List.{filter}
use Rattle.apx_history.specs.Plan.{Point, Before, Done, Act, Fails, Splits, Plan, has, line, reads, below, is_checkpoint, splits, splits_op, fails_part, kills}
use Rattle.apx_history.specs.State.{Slot, Oper, State, oper, parts, slot, IsPart, is_left, open_window, map_slots}
use Rattle.apx_history.specs.Enabled.{limit, limit_in, due, in_tree, least_rc, at_act}
use Rattle.apx_history.specs.Effects.{trimmed, back, back_in, meet}
use Rattle.apx_history.specs.Conditions.{CanCommit, CanKill, IsDue}
use Rattle.apx_history.specs.Kept.{IsPlan, IsAscending, Sound, Ordered, IsAhead, ActAhead, Kept}
use Rattle.apx_history.proofs.Tests.{both, test, not_true, or_right, one_of, has-filter, ascending-filter, least-le}
use Rattle.apx_history.proofs.Slots.{map_ops, map_boundary, map_parts, map_was, map_is, slot_map}
use Rattle.apx_history.proofs.Conditions.{all_true, equal_at, equal_by, due_at}
use Rattle.apx_history.proofs.Lines.{flag_there, flag_was, flag_other, limit-same}
use Rattle.apx_history.proofs.Frames.{Alike, keeps_shape, line_there, op_there, reads_there, some_part, named_part, sink_at}
use Rattle.apx_history.proofs.Keeps.{none_open}

kept_filter : (p : ℕ → Bool) (xs : List ℕ) (v : ℕ) → has xs v ≡ true → p v ≡ true → has (filter p xs) v ≡ true
kept_filter p xs v h k = has-filter p xs v ∙ all_true h k

was_filter : (p : ℕ → Bool) (xs : List ℕ) (v : ℕ) → has (filter p xs) v ≡ true → (has xs v ≡ true) × (p v ≡ true)
was_filter p xs v h = both (has xs v) (p v) (sym (has-filter p xs v) ∙ h)

-- a changed state that is read as the mapped one
module _ (plan : Plan) (is : IsPlan plan) (m : State) (kept : Kept plan m) (f : ℕ → ℕ → Slot → Slot) where
  -- what is owed of a state whose partitions are those of m, each made into another
  pub keeps_all : (n : State) → n.ops ≡ (map_slots f m).ops → length n.left ≡ length m.left → n.stored ≡ m.stored →
      ((l : ℕ) → is_left n l ≡ true → is_left m l ≡ true) →
      ((l : ℕ) → splits (line plan l).act ≡ true → is_left m l ≡ true → is_left n l ≡ true) →
      ((o : ℕ) → limit plan n o ≡ limit plan m o) →
      ((o i : ℕ) → IsPart m o i → Sound plan n.committed (oper m o).boundary (limit plan m o) (f o i (slot m o i))) →
      ((o s : ℕ) → reads plan o s ≡ true → (i j : ℕ) → IsPart m o i → IsPart m s j → Ordered (f s j (slot m s j)) (f o i (slot m o i))) →
      ((o i : ℕ) → IsPart m o i → (f o i (slot m o i)).at ≤ (slot m o i).at) →
      ((l i : ℕ) (point : Point) → is_left n l ≡ true → (line plan l).act ≡ Fails point i → (line plan l).window ≤ limit plan m (line plan l).op → IsPart m (line plan l).op i →
      IsAhead point (line plan l).window (f (line plan l).op i (slot m (line plan l).op i))) →
      Kept plan n
  keeps_all n ops flags stored fewer stays same each ordered at ahead = keeps_shape plan is m kept n shape flags fewer stays
      (λ o i r. (let q = was o i r in
      subst (λ (k : ℕ). Sound plan n.committed (oper m o).boundary k (slot n o i)) (sym (same o)) (subst (λ (y : Slot). Sound plan n.committed (oper m o).boundary (limit plan m o) y) (sym (mapped o i q)) (each o i q))))
      (λ o s h i j r t. (let q = was o i r in let u = was s j t in
      subst (λ (y : Slot). Ordered y (slot n o i)) (sym (mapped s j u)) (subst (λ (y : Slot). Ordered (f s j (slot m s j)) y) (sym (mapped o i q)) (ordered o s h i j q u))))
      (let q = sink_there in
      subst (λ (y : Slot). y.at ≤ n.stored) (sym (mapped plan.sink 0 q)) (let a = at plan.sink 0 q in let b = kept.sink in omega arith))
      (let a = kept.stored in omega arith)
      (λ l h. ahead_of l h (line plan l).act refl)
    where
      shape : Alike m n
      shape = record {
        ops = ap length ops ∙ map_ops f m;
        boundary = λ o r. ap (λ (ops : List Oper). (get_or ops o (record { boundary = 0; parts = [] })).boundary) ops ∙ map_boundary f m o r;
        parts = λ o r. ap (λ (ops : List Oper). length (get_or ops o (record { boundary = 0; parts = [] })).parts) ops ∙ map_parts f m o r;
      }

      was : (o i : ℕ) → IsPart n o i → IsPart m o i
      was o i r = let e = shape.ops in let a : o < length m.ops = (let b = r.0 in omega arith) in let g = shape.parts o a in (a, (let b = r.1 in omega arith))

      mapped : (o i : ℕ) → IsPart m o i → slot n o i ≡ f o i (slot m o i)
      mapped o i r = ap (λ (ops : List Oper). get_or (get_or ops o (record { boundary = 0; parts = [] })).parts i (record { at = 0; opened = None; saved = 0 ∷ []; rc = 0; floor = 0 })) ops ∙ slot_map f m o i r

      sink_there : IsPart m plan.sink 0
      sink_there = let a : plan.sink < length m.ops = (let b = is.sink in let c = kept.ops in omega arith) in (a, some_part plan is m kept plan.sink a)

      ahead_of : (l : ℕ) → is_left n l ≡ true → (a : Act) → (line plan l).act ≡ a → ActAhead n (limit plan n (line plan l).op) (line plan l).op (line plan l).window a
      ahead_of l h (Splits count) e = tt
      ahead_of l h (Fails point part) e = λ within.
          let within' : (line plan l).window ≤ limit plan m (line plan l).op = subst (λ (k : ℕ). (line plan l).window ≤ k) (same (line plan l).op) within in
          let r = named_part plan is m kept l part point (fewer l h) e within' in
          subst (λ (y : Slot). IsAhead point (line plan l).window y) (sym (mapped (line plan l).op part r)) (ahead l part point h e within' r)

module _ (plan : Plan) (is : IsPlan plan) (m : State) (kept : Kept plan m) where
  -- what was kept of a kill
  old_ahead : (l i : ℕ) (point : Point) → is_left m l ≡ true → (line plan l).act ≡ Fails point i → (line plan l).window ≤ limit plan m (line plan l).op → IsAhead point (line plan l).window (slot m (line plan l).op i)
  old_ahead l i point h a within =
      let old : ActAhead m (limit plan m (line plan l).op) (line plan l).op (line plan l).window (Fails point i) =
      subst (λ (x : Act). ActAhead m (limit plan m (line plan l).op) (line plan l).op (line plan l).window x) a (kept.ahead l h) in
      old within

  -- ---- Commit

  least : (w : ℕ) → CanCommit plan m w → (o i : ℕ) → IsPart m o i → w ≤ (slot m o i).rc
  unfolding least_rc
  least w can o i r = let a = can.to in let b = least-le m (λ o i. (slot m o i).rc) plan.windows o i r in omega arith

  trimmed_sound : (w : ℕ) → CanCommit plan m w → (o i : ℕ) → IsPart m o i → Sound plan w (oper m o).boundary (limit plan m o) (trimmed w (slot m o i))
  trimmed_sound w can o i r =
      let x = slot m o i in
      let s = kept.each o i r in
      let up = can.above in
      let low : w ≤ (slot m o i).rc = least w can o i r in
      record {
        committed = low;
        rc = s.rc;
        at = s.at;
        floor = s.floor;
        rc_saved = kept_filter (λ v. nat_le w v) (slot m o i).saved (slot m o i).rc s.rc_saved (le-leb w (slot m o i).rc low);
        saved = λ v h. (let g = was_filter (λ v. nat_le w v) (slot m o i).saved v h in let k = s.saved v g.0 in (k.0, leb-true w v g.1, k.2, k.3));
        whole = λ v c a b h. kept_filter (λ v. nat_le w v) (slot m o i).saved v (s.whole v c (omega arith) b h) (le-leb w v a);
        ascending = ascending-filter (λ v. nat_le w v) (slot m o i).saved s.ascending;
        opened = λ v h. (let k = s.opened v h in (k.0, k.1, λ c. kept_filter (λ v. nat_le w v) (slot m o i).saved (slot m o i).at (k.2 c) (le-leb w (slot m o i).at (let a = s.rc in omega arith))));
      }

  pub keeps_commit : (w : ℕ) → CanCommit plan m w → Kept plan (record (map_slots (λ o i. trimmed w) m) { committed = w })
  unfolding map_slots
  keeps_commit w can = keeps_all plan is m kept (λ o i. trimmed w) (record (map_slots (λ o i. trimmed w) m) { committed = w }) refl refl refl
      (λ l h. h) (λ l s h. h) (λ o. refl)
      (λ o i r. trimmed_sound w can o i r)
      (λ o s h i j r t. (let g = kept.ordered o s h i j r t in record { rc = g.rc; floor = g.floor; opened = g.opened }))
      (λ o i r. omega arith)
      (λ l i point h a within r. trimmed_ahead (slot m (line plan l).op i) point (line plan l).window (old_ahead l i point h a within))
    where
      trimmed_ahead : (x : Slot) (point : Point) (v : ℕ) → IsAhead point v x → IsAhead point v (trimmed w x)
      trimmed_ahead x point v (inl h) = inl h
      trimmed_ahead x point v (inr h) = inr (h.0, h.1, h.2, has-filter (λ v. nat_le w v) x.saved v ∙ ap (λ (b : Bool). b && nat_le w v) h.3)

  -- ---- Kill

  back_sound : (o i : ℕ) → IsPart m o i → Sound plan m.committed (oper m o).boundary (limit plan m o) (back (slot m o i))
  back_sound o i r =
      let s = kept.each o i r in
      let le = s.rc in
      record {
        committed = s.committed;
        rc = omega arith;
        at = (let a = s.at in omega arith);
        floor = omega arith;
        rc_saved = kept_filter (λ v. nat_le v (slot m o i).rc) (slot m o i).saved (slot m o i).rc s.rc_saved (le-leb (slot m o i).rc (slot m o i).rc (omega arith));
        saved = λ v h. (let g = was_filter (λ v. nat_le v (slot m o i).rc) (slot m o i).saved v h in let k = s.saved v g.0 in (k.0, k.1, k.2, leb-true v (slot m o i).rc g.1));
        whole = λ v c a b h. kept_filter (λ v. nat_le v (slot m o i).rc) (slot m o i).saved v (s.whole v c a b (omega arith)) (le-leb v (slot m o i).rc (omega arith));
        ascending = ascending-filter (λ v. nat_le v (slot m o i).rc) (slot m o i).saved s.ascending;
        opened = λ v h. absurd (none_open None refl h);
      }

  back_ahead : (o i : ℕ) (point : Point) (v : ℕ) → IsPart m o i → IsAhead point v (slot m o i) → IsAhead point v (back (slot m o i))
  back_ahead o i point v r (inl h) = let s = kept.each o i r in inl ((let a = s.rc in let b = h.0 in omega arith), λ b g. none_open None refl g)
  back_ahead o i point v r (inr h) =
      let s = kept.each o i r in
      let le = s.rc in
      let at : (slot m o i).at ≡ v = h.1 in
      let ne : (slot m o i).rc ≡ v → ⊥ = λ e. clash (sym (subst (λ (k : ℕ). has (slot m o i).saved k ≡ true) e s.rc_saved) ∙ h.3) in
      inl (omega (arith, ne), λ b g. none_open None refl g)
    where
      clash : true ≡ false → ⊥
      clash h = cc

  -- whoever reads a partition of the tree is in it
  tree_reads : (l o s i j : ℕ) → reads plan o s ≡ true → in_tree plan l s j ≡ true → in_tree plan l o i ≡ true
  unfolding in_tree
  tree_reads l o s i j h t = elim (one_of (kills s j (line plan l)) (below plan (line plan l).op s) t) [
    | inl k ↦ (let e : (line plan l).op ≡ s = equal_at (line plan l).op s (both ((line plan l).op == s) (fails_part j (line plan l).act) k).0 in
        or_right (kills o i (line plan l)) (below plan (line plan l).op o) (subst (λ (p : ℕ). below plan p o ≡ true) (sym e) (is.direct o s h)))
    | inr b ↦ or_right (kills o i (line plan l)) (below plan (line plan l).op o) (is.further (line plan l).op s o b (is.direct o s h))
  ]

  back_ordered : (l o s i j : ℕ) → reads plan o s ≡ true → IsPart m o i → IsPart m s j → Ordered (back_in plan l s j (slot m s j)) (back_in plan l o i (slot m o i))
  back_ordered l o s i j h r t = by (in_tree plan l s j) (in_tree plan l o i) (tree_reads l o s i j h)
    where
      by : (a b : Bool) → (a ≡ true → b ≡ true) → Ordered (cond a (back (slot m s j)) (slot m s j)) (cond b (back (slot m o i)) (slot m o i))
      by true true g = let k = kept.ordered o s h i j r t in record { rc = k.rc; floor = k.rc; opened = λ v e. absurd (none_open None refl e) }
      by true false g = let e = g refl in cc
      by false true g = let k = kept.ordered o s h i j r t in record { rc = k.rc; floor = k.floor; opened = λ v e. absurd (none_open None refl e) }
      by false false g = kept.ordered o s h i j r t

  -- the line that is met is a kill
  pub kill_act : (l : ℕ) → due plan m l ≡ true → splits (line plan l).act ≡ false
  kill_act l h = by (line plan l).act (due_at plan m l h).point
    where
      by : (a : Act) → at_act plan m (line plan l).op (line plan l).window a ≡ true → splits a ≡ false
      by (Fails point part) h = refl
      by (Splits count) h = cc

  pub keeps_kill : (l : ℕ) → CanKill plan m l → Kept plan (meet l (map_slots (back_in plan l) m))
  unfolding map_slots meet
  keeps_kill l can = keeps_all plan is m kept (back_in plan l) (meet l (map_slots (back_in plan l) m)) refl (length-set m.left l false) refl
      (flag_was m.left l)
      (λ k s h. flag_other m.left l k (λ e. clash (sym s ∙ ap (λ (p : ℕ). splits (line plan p).act) e ∙ kill_act l can.due)) ∙ h)
      (λ o. limit-same o plan.lines m.left plan.windows l (ap (λ (b : Bool). b && (line plan l).op == o) (kill_act l can.due)))
      (λ o i r. either (in_tree plan l o i) (Sound plan m.committed (oper m o).boundary (limit plan m o)) (slot m o i) (back_sound o i r) (kept.each o i r))
      (λ o s h i j r t. back_ordered l o s i j h r t)
      (λ o i r. (let s = kept.each o i r in either (in_tree plan l o i) (λ x. x.at ≤ (slot m o i).at) (slot m o i) s.rc (omega arith)))
      (λ k i point h a within r.
      let old = old_ahead k i point (flag_was m.left l k h) a within in
      either (in_tree plan l (line plan k).op i) (IsAhead point (line plan k).window) (slot m (line plan k).op i) (back_ahead (line plan k).op i point (line plan k).window r old) old)
    where
      clash : true ≡ false → ⊥
      clash h = cc

      either : (b : Bool) (P : Slot → Type 0) (x : Slot) → P (back x) → P x → P (cond b (back x) x)
      either true P x h k = h
      either false P x h k = k
