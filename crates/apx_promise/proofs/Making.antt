-- Which checkpoints must be there and may be there, from event to event.
use Rattle.std.proofs.Common.{◌≡◌, ℕ, ◌<◌, ◌≤◌, ◌⊎◌, inl, inr, Bool, true, false, cond, ◌||◌, ◌==◌, nat_le, List, [], ◌∷◌, ◌++◌, length, get_or, set, replicate, Some, refl, sym, ap, subst, ◌∙◌, arith}
use Rattle.std.specs.List.{filter}
use Rattle.std.proofs.Math.ListN.{length-replicate, length-set, get_or-map}
use Rattle.std.proofs.lemmas.List.{get_or-set_same, get_or-set_other}
use Rattle.apx_device.specs.declared.vault.SaveId.{SaveId}
use Rattle.apx_history.specs.declared.Act.{Act}
use Rattle.apx_history.specs.declared.Act.TheVariants.{Fails, Splits}
use Rattle.apx_history.specs.declared.Event.{Event}
use Rattle.apx_history.specs.declared.Event.TheVariants.{Start, Write, Finish, Save, Advance, Commit, Purge, Kill, Repartition, End, Fault}
use Rattle.apx_history.specs.Plan.{Plan, Operator, no_operator, operator, has, line, is_checkpoint, splits, splits_op, count_or, boundary_at, number}
use Rattle.apx_history.specs.State.{Slot, Oper, State, fresh, no_oper, oper, parts, slot, IsPart, is_left, put, map_slots}
use Rattle.apx_history.specs.Enabled.{in_tree, at_act, can}
use Rattle.apx_history.specs.Effects.{started, finished, saves, advanced, purged, trimmed, back, back_in, meet, split, next}
use Rattle.apx_history.specs.Conditions.{Enabled, CanSave, CanRepartition}
use Rattle.apx_history.specs.Journals.{beginning}
use Rattle.apx_history.specs.Kept.{IsAct, IsPlan, Kept}
use Rattle.apx_history.proofs.Tests.{both, one_of, alike, has-append, has-filter}
use Rattle.apx_history.proofs.Conditions.{all_true, equal_at, equal_by, due_at}
use Rattle.apx_history.proofs.Frames.{some_part, in_epoch, line_there}
use Rattle.apx_history.proofs.Legal.{can_facts, events-keep, all_left}
use Rattle.apx_history.proofs.Lines.{flag_other, limit-start, limit-le, number-is}
use Rattle.apx_history.proofs.Renewed.{fresh_at}
use Rattle.apx_history.proofs.Slots.{part_was, put_boundary, put_slot, map_was, map_boundary, slot_map}
use Rattle.apx_promise.specs.Checkpoints.{WasLeft, MustBeSaved, MayBeSaved, IsMadeBy}
use Rattle.apx_promise.specs.Laws.{SavesAreMade, MadeMayBe, NoneAtFirst}
use Rattle.apx_promise.proofs.Performing.{kills_act}
use Rattle.apx_promise.proofs.Saving.{SplitsAt, reach-by, split_by}

-- ---- what must be there

-- what must be there isn't below what is committed
not_below : (plan : Plan) (m : State) → Kept plan m → (id : SaveId) → MustBeSaved plan m id → m.committed ≤ id.window
not_below plan m kept id (inl now) = ((kept.each id.op id.part now.0).saved id.window now.2).1
not_below plan m kept id (inr left) = left.2

module _ (plan : Plan) (m : State) (id : SaveId) where
  -- a partition that is there has saved the window
  abbrev Now : State → Type 0
  Now n = IsPart n id.op id.part × (id.boundary ≡ (oper n id.op).boundary) × (has (slot n id.op id.part).saved id.window ≡ true)

  -- the epoch was left at the window
  abbrev Left : State → Type 0
  Left n = WasLeft plan n id.op id.boundary id.window × (id.part < number plan id.op id.boundary) × (n.committed ≤ id.window)

  -- the same lines are left, and no more is committed
  was_left : (n : State) → ((k : ℕ) → k < length plan.lines → splits_op id.op (line plan k) ≡ true → is_left n k ≡ false → is_left m k ≡ false) → m.committed ≤ n.committed → Left n → Left m
  was_left n flags low left =
      let l = left.0 in (
        record { by = l.by; there = l.there; splits = l.splits; window = l.window; met = flags l.by l.there l.splits l.met; epoch = l.epoch },
        left.1,
        (let a = left.2 in omega arith),
      )

  -- one partition changed that has saved no more
  put_now : (p j : ℕ) (x : Slot) → IsPart m p j → (has x.saved id.window ≡ true → has (slot m p j).saved id.window ≡ true) → Now (put m p j x) → Now m
  put_now p j x here fewer now = (
    part_was m p j x here id.op id.part now.0,
    now.1 ∙ put_boundary m p j x here id.op,
    put_slot m p j x here (λ q k (y : Slot). has y.saved id.window ≡ true → has (slot m q k).saved id.window ≡ true) fewer id.op id.part (λ n h. h) now.2,
  )

  -- each partition changed that has saved no more
  map_now : (f : ℕ → ℕ → Slot → Slot) → ((o i : ℕ) (x : Slot) → has (f o i x).saved id.window ≡ true → has x.saved id.window ≡ true) → Now (map_slots f m) → Now m
  map_now f fewer now =
      let part = map_was f m id.op id.part now.0 in (
        part,
        now.1 ∙ map_boundary f m id.op part.0,
        fewer id.op id.part (slot m id.op id.part) (subst (λ (x : Slot). has x.saved id.window ≡ true) (slot_map f m id.op id.part part) now.2),
      )

-- a list without some has no more
fewer_in : (p : ℕ → Bool) (xs : List ℕ) (w : ℕ) → has (filter p xs) w ≡ true → has xs w ≡ true
fewer_in p xs w h = (both (has xs w) (p w) (sym (has-filter p xs w) ∙ h)).0

fewer_back : (plan : Plan) (l o i w : ℕ) (x : Slot) → has (back_in plan l o i x).saved w ≡ true → has x.saved w ≡ true
fewer_back plan l o i w x h = by (in_tree plan l o i) h
  where
    by : (b : Bool) → has (cond b (back x) x).saved w ≡ true → has x.saved w ≡ true
    by true h = fewer_in (λ v. nat_le v x.rc) x.saved w h
    by false h = h

-- a list of one
alone : (v w : ℕ) → has (v ∷ []) w ≡ true → v ≡ w
unfolding has
alone v w h = equal_at v w (plain (v == w) h)
  where
    plain : (c : Bool) → (c || false) ≡ true → c ≡ true
    plain true h = refl
    plain false h = cc

-- what is in a list of one more
one_more : (xs : List ℕ) (v w : ℕ) → has (xs ++ v ∷ []) w ≡ true → (has xs w ≡ true) ⊎ (v ≡ w)
one_more xs v w h = elim (one_of (has xs w) (has (v ∷ []) w) (sym (has-append xs (v ∷ []) w) ∙ h)) [ inl old ↦ inl old | inr new ↦ inr (alone v w new) ]

-- an id by its parts
pub same_id : (id : SaveId) (o b i w : ℕ) → id.op ≡ o → id.boundary ≡ b → id.part ≡ i → id.window ≡ w → id ≡ record { op = o; boundary = b; part = i; window = w }
same_id id o b i w op boundary part window =
    ap (λ (v : ℕ). record { op = v; boundary = id.boundary; part = id.part; window = id.window }) op
    ∙ ap (λ (v : ℕ). record { op = o; boundary = v; part = id.part; window = id.window }) boundary
    ∙ ap (λ (v : ℕ). record { op = o; boundary = b; part = v; window = id.window }) part
    ∙ ap (λ (v : ℕ). record { op = o; boundary = b; part = i; window = v }) window

-- ---- Save

save_now : (plan : Plan) (m : State) (o i w : ℕ) → CanSave plan m o i w → (id : SaveId) → Now plan m id (put m o i (saves w (slot m o i))) →
    MustBeSaved plan m id ⊎ IsMadeBy plan m (Save o i w) id
save_now plan m o i w can id now = elim (alike id.op o) [
  | inl op ↦ elim (alike id.part i) [
    | inl part ↦ here op part (one_more (slot m o i).saved w id.window (there op part))
    | inr other ↦ inl (inl (rest (λ e f. other f)))
  ]
  | inr other ↦ inl (inl (rest (λ e f. other e)))
]
  where
    boundary : id.boundary ≡ (oper m id.op).boundary
    boundary = now.1 ∙ put_boundary m o i (saves w (slot m o i)) can.part id.op

    rest : (id.op ≡ o → id.part ≡ i → ⊥) → Now plan m id m
    rest other = (
      part_was m o i (saves w (slot m o i)) can.part id.op id.part now.0,
      boundary,
      put_slot m o i (saves w (slot m o i)) can.part (λ q k (y : Slot). (q ≡ o → k ≡ i → ⊥) → has y.saved id.window ≡ true → has (slot m q k).saved id.window ≡ true)
          (λ n h. absurd (n refl refl)) id.op id.part (λ n m h. h) other now.2,
    )

    there : id.op ≡ o → id.part ≡ i → has ((slot m o i).saved ++ w ∷ []) id.window ≡ true
    there op part = put_slot m o i (saves w (slot m o i)) can.part (λ q k (y : Slot). q ≡ o → k ≡ i → has y.saved id.window ≡ true → has ((slot m o i).saved ++ w ∷ []) id.window ≡ true)
        (λ e f h. h) id.op id.part (λ n e f h. absurd (n e f)) op part now.2

    here : id.op ≡ o → id.part ≡ i → (has (slot m o i).saved id.window ≡ true) ⊎ (w ≡ id.window) → MustBeSaved plan m id ⊎ IsMadeBy plan m (Save o i w) id
    here op part (inl old) = inl (inl (
      part_was m o i (saves w (slot m o i)) can.part id.op id.part now.0,
      boundary,
      subst (λ p. has (slot m p id.part).saved id.window ≡ true) (sym op) (subst (λ k. has (slot m o k).saved id.window ≡ true) (sym part) old),
    ))
    here op part (inr new) = inr (same_id id o (oper m o).boundary i w op (boundary ∙ ap (λ p. (oper m p).boundary) op) part (sym new))

-- ---- Repartition

module _ (plan : Plan) (is : IsPlan plan) (m : State) (kept : Kept plan m) (l : ℕ) (can : CanRepartition plan m l) where
  abbrev o : ℕ
  o = (line plan l).op

  abbrev b : ℕ
  b = (line plan l).window

  abbrev n : ℕ
  n = count_or 0 (line plan l).act

  abbrev after : State
  after = meet l (split (line plan l).op (line plan l).window (count_or 0 (line plan l).act) m)

  l_there : l < length plan.lines
  l_there = line_there plan is m kept l can.left

  o_there : o < length m.ops
  o_there = let a = is.op l l_there in let e = kept.ops in omega arith

  own : splits_op o (line plan l) ≡ true
  own = all_true can.splits (equal_by o o refl)

  after_ops : length after.ops ≡ length m.ops
  unfolding meet split
  after_ops = length-set m.ops o (record { boundary = b; parts = replicate n (fresh b) })

  oper_new : oper after o ≡ record { boundary = b; parts = replicate n (fresh b) }
  unfolding meet split
  oper_new = get_or-set_same m.ops o (record { boundary = b; parts = replicate n (fresh b) }) no_oper o_there

  oper_old : (p : ℕ) → (p ≡ o → ⊥) → oper after p ≡ oper m p
  unfolding meet split
  oper_old p other = get_or-set_other m.ops o p (record { boundary = b; parts = replicate n (fresh b) }) no_oper other

  -- the new partitions have saved the boundary alone
  fresh_saved : (i w : ℕ) → i < n → has (get_or (replicate n (fresh b)) i (fresh 0)).saved w ≡ true → b ≡ w
  fresh_saved i w low h = alone b w (subst (λ (x : Slot). has x.saved w ≡ true) (fresh_at b n i low) h)

  split_now : (id : SaveId) → Now plan m id after → MustBeSaved plan m id ⊎ IsMadeBy plan m (Repartition l) id
  split_now id now = elim (alike id.op o) [
    | inr other ↦ inl (inl (
      (
        (let a = after_ops in let c = now.0.0 in omega arith),
        (let e = ap (λ (q : Oper). length q.parts) (oper_old id.op other) in let c = now.0.1 in omega arith),
      ),
      now.1 ∙ ap (λ (q : Oper). q.boundary) (oper_old id.op other),
      subst (λ (q : Oper). has (get_or q.parts id.part (fresh 0)).saved id.window ≡ true) (oper_old id.op other) now.2,
    ))
    | inl same ↦ inr (anew same (ap (λ p. oper after p) same ∙ oper_new))
  ]
    where
      anew : id.op ≡ o → oper after id.op ≡ record { boundary = b; parts = replicate n (fresh b) } → IsMadeBy plan m (Repartition l) id
      anew same at =
          let e = ap (λ (q : Oper). length q.parts) at in
          let f = length-replicate n (fresh b) in
          let there = now.0.1 in
          let low : id.part < n = omega arith in
          let window = fresh_saved id.part id.window low (subst (λ (q : Oper). has (get_or q.parts id.part (fresh 0)).saved id.window ≡ true) at now.2) in
          (id.part, low, same_id id o b id.part b same (now.1 ∙ ap (λ (q : Oper). q.boundary) at) refl (sym window))

  -- the epoch that the line ends was saved at its window
  ended_epoch : (id : SaveId) → id.op ≡ o → b ≡ id.window → boundary_at plan id.op id.window ≡ id.boundary → id.part < number plan id.op id.boundary → Now plan m id m
  ended_epoch id op window epoch part =
      let here : boundary_at plan o b ≡ (oper m o).boundary = in_epoch plan is m kept o b o_there (kept.lines l can.left) (let a = can.window in omega arith) in
      let same : id.boundary ≡ (oper m o).boundary = sym epoch ∙ ap (λ p. boundary_at plan p id.window) op ∙ ap (λ w. boundary_at plan o w) (sym window) ∙ here in
      let many : parts m o ≡ number plan o (oper m o).boundary = kept.number o o_there in
      let few : number plan id.op id.boundary ≡ number plan o (oper m o).boundary = ap (λ p. number plan p id.boundary) op ∙ ap (λ c. number plan o c) same in
      let low : id.part < parts m o = omega arith in
      let rests = can.rests id.part low in
      let saved = (kept.each o id.part (o_there, low)).rc_saved in
      subst (λ p. IsPart m p id.part × (id.boundary ≡ (oper m p).boundary) × (has (slot m p id.part).saved id.window ≡ true)) (sym op)
      ((o_there, low), same, subst (λ w. has (slot m o id.part).saved w ≡ true) (rests.0 ∙ window) saved)

  flag_was : (k : ℕ) → (k ≡ l → ⊥) → is_left after k ≡ false → is_left m k ≡ false
  unfolding meet split
  flag_was k other h = sym (flag_other m.left l k other) ∙ h

  committed_same : after.committed ≡ m.committed
  unfolding meet split
  committed_same = refl

  split_left : (id : SaveId) → Left plan m id after → MustBeSaved plan m id
  split_left id left = elim (alike left.0.by l) [
    | inl same ↦ inl (ended_epoch id
        (let test = both (splits (line plan left.0.by).act) ((line plan left.0.by).op == id.op) left.0.splits in sym (equal_at (line plan left.0.by).op id.op test.1) ∙ ap (λ k. (line plan k).op) same)
        (ap (λ k. (line plan k).window) (sym same) ∙ left.0.window) left.0.epoch left.1)
    | inr other ↦ inr (
      record { by = left.0.by; there = left.0.there; splits = left.0.splits; window = left.0.window; met = flag_was left.0.by other left.0.met; epoch = left.0.epoch },
      left.1,
      (let c = left.2 in let e = committed_same in omega arith),
    )
  ]

  -- what the line makes may be there
  split_may : (id : SaveId) → IsMadeBy plan m (Repartition l) id → MayBeSaved plan m.committed id
  split_may id made = subst (λ (x : SaveId). MayBeSaved plan m.committed x) (sym made.2) (record {
    of_part = record {
      op = is.op l l_there;
      boundary = inr (split_by plan o b l (l_there, own) refl);
      part = (let e = number_here in let a = made.1 in omega arith);
      begun = omega arith;
      reached = reach-by plan o b b (is.window l l_there).1 (λ k at more. omega arith);
    };
    checkpoint = act.0;
    positive = (is.window l l_there).0;
    committed = (let s = kept.each o 0 (o_there, some_part plan is m kept o o_there) in let c = s.committed in let e = (can.rests 0 (some_part plan is m kept o o_there)).0 in omega arith);
  })
    where
      of_act : (a : Act) → splits a ≡ true → IsAct plan o b a → (is_checkpoint plan b ≡ true) × (count_or (operator plan o).first a ≡ count_or 0 a)
      of_act (Splits count) s h = (h.0, refl)
      of_act (Fails point part) s h = cc

      act : (is_checkpoint plan b ≡ true) × (count_or (operator plan o).first (line plan l).act ≡ n)
      act = of_act (line plan l).act can.splits (is.act l l_there)

      number_here : number plan o b ≡ n
      number_here = number-is o plan.lines b (operator plan o).first n l l_there own refl
          (λ k r s e. ap (λ (j : ℕ). count_or (operator plan o).first (line plan j).act) (is.once o k l r l_there s own e) ∙ act.1)

-- ---- all events

module _ (plan : Plan) (is : IsPlan plan) (m : State) (kept : Kept plan m) (u : ℕ) (id : SaveId) where
  made : (e : Event) → Enabled plan m e → MustBeSaved plan (next plan m u e) id → MustBeSaved plan m id ⊎ IsMadeBy plan m e id
  unfolding put map_slots meet
  made (Start p j w) h (inl now) = inl (inl (put_now plan m id p j (started w u (slot m p j)) h.part (λ s. s) now))
  made (Start p j w) h (inr left) = inl (inr (was_left plan m id (put m p j (started w u (slot m p j))) (λ k r s f. f) (omega arith) left))
  made (Write w) h (inl now) = inl (inl now)
  made (Write w) h (inr left) = inl (inr (was_left plan m id (record m { stored = w }) (λ k r s f. f) (omega arith) left))
  made (Finish p j w) h (inl now) = inl (inl (put_now plan m id p j (finished w (slot m p j)) h.part (λ s. s) now))
  made (Finish p j w) h (inr left) = inl (inr (was_left plan m id (put m p j (finished w (slot m p j))) (λ k r s f. f) (omega arith) left))
  made (Save p j w) h (inl now) = save_now plan m p j w h id now
  made (Save p j w) h (inr left) = inl (inr (was_left plan m id (put m p j (saves w (slot m p j))) (λ k r s f. f) (omega arith) left))
  made (Advance p j w) h (inl now) = inl (inl (put_now plan m id p j (advanced w (slot m p j)) h.part (λ s. s) now))
  made (Advance p j w) h (inr left) = inl (inr (was_left plan m id (put m p j (advanced w (slot m p j))) (λ k r s f. f) (omega arith) left))
  made (Commit w) h (inl now) = inl (inl (map_now plan m id (λ o i. trimmed w) (λ o i x. fewer_in (λ v. nat_le w v) x.saved id.window) now))
  made (Commit w) h (inr left) = inl (inr (was_left plan m id (record (map_slots (λ o i. trimmed w) m) { committed = w }) (λ k r s f. f) (let a = h.above in omega arith) left))
  made (Purge p j w) h (inl now) = inl (inl (put_now plan m id p j (purged w (slot m p j)) h.part (λ s. s) now))
  made (Purge p j w) h (inr left) = inl (inr (was_left plan m id (put m p j (purged w (slot m p j))) (λ k r s f. f) (omega arith) left))
  made (Kill l) h (inl now) = inl (inl (map_now plan m id (back_in plan l) (λ o i x. fewer_back plan l o i id.window x) now))
  made (Kill l) h (inr left) = inl (inr (was_left plan m id (meet l (map_slots (back_in plan l) m)) (killed l (due_at plan m l h.due).point) (omega arith) left))
    where
      killed : (l : ℕ) → at_act plan m (line plan l).op (line plan l).window (line plan l).act ≡ true → (k : ℕ) → k < length plan.lines → splits_op id.op (line plan k) ≡ true →
          get_or (set m.left l false) k false ≡ false → is_left m k ≡ false
      killed l point k there split none = sym (flag_other m.left l k (λ same.
          let kills : splits (line plan l).act ≡ false = kills_act plan m (line plan l).op (line plan l).window (line plan l).act point in
          let test = both (splits (line plan k).act) ((line plan k).op == id.op) split in
          let both_are : true ≡ false = sym test.0 ∙ ap (λ j. splits (line plan j).act) same ∙ kills in
          cc)) ∙ none
  made (Repartition l) h (inl now) = split_now plan is m kept l h id now
  made (Repartition l) h (inr left) = inl (split_left plan is m kept l h id left)
  made End h (inl now) = inl (inl now)
  made End h (inr left) = inl (inr (was_left plan m id (record m { ended = true }) (λ k r s f. f) (omega arith) left))
  made (Fault s) h (inl now) = inl (inl now)
  made (Fault s) h (inr left) = inl (inr (was_left plan m id (record m { fault = Some s }) (λ k r s f. f) (omega arith) left))

pub saves-are-made : SavesAreMade
saves-are-made plan m u e is kept can id must = (
  made plan is m kept u id e (can_facts plan m e can) must,
  not_below plan (next plan m u e) (events-keep plan m is kept u e can) id must,
)

-- ---- what may be there

save_may : (plan : Plan) → IsPlan plan → (m : State) → Kept plan m → (o i w : ℕ) → CanSave plan m o i w → MayBeSaved plan m.committed (record { op = o; boundary = (oper m o).boundary; part = i; window = w })
save_may plan is m kept o i w can =
    let s = kept.each o i can.part in
    let rc = s.saved (slot m o i).rc s.rc_saved in
    let since = rc.2 in
    let behind = s.rc in
    let now = can.now in
    let low = s.committed in
    let far = s.at in
    let last = limit-start o plan.lines m.left plan.windows in
    record {
      of_part = record {
        op = (let a = kept.ops in let b = can.part.0 in omega arith);
        boundary = elim (kept.boundary o can.part.0) [ inl first ↦ inl first | inr at ↦ inr (split_by plan o (oper m o).boundary at.0 (at.1, at.2) at.3) ];
        part = (let a = kept.number o can.part.0 in let b = can.part.1 in omega arith);
        begun = omega arith;
        reached = reach-by plan o (oper m o).boundary w (omega arith) (λ k at more. (let nearest = limit-le o plan.lines m.left plan.windows k at.0 (left_behind k at more) at.1 in omega arith));
      };
      checkpoint = can.checkpoint;
      positive = can.positive;
      committed = omega arith;
    }
  where
    left_behind : (k : ℕ) → SplitsAt plan o k → (oper m o).boundary < (line plan k).window → is_left m k ≡ true
    left_behind k at more =
        let test = both (splits (line plan k).act) ((line plan k).op == o) at.1 in
        kept.still k at.0 test.0 (subst (λ p. (oper m p).boundary < (line plan k).window) (sym (equal_at (line plan k).op o test.1)) more)

made_may : (plan : Plan) → IsPlan plan → (m : State) → Kept plan m → (u : ℕ) (e : Event) → Enabled plan m e → (id : SaveId) → IsMadeBy plan m e id → MayBeSaved plan (next plan m u e).committed id
unfolding put meet split
made_may plan is m kept u (Save o i w) h id made = subst (λ (x : SaveId). MayBeSaved plan m.committed x) (sym made) (save_may plan is m kept o i w h)
made_may plan is m kept u (Repartition l) h id made = split_may plan is m kept l h id made
made_may plan is m kept u (Start o i w) h id made = absurd made
made_may plan is m kept u (Write w) h id made = absurd made
made_may plan is m kept u (Finish o i w) h id made = absurd made
made_may plan is m kept u (Advance o i w) h id made = absurd made
made_may plan is m kept u (Commit w) h id made = absurd made
made_may plan is m kept u (Purge o i w) h id made = absurd made
made_may plan is m kept u (Kill l) h id made = absurd made
made_may plan is m kept u End h id made = absurd made
made_may plan is m kept u (Fault s) h id made = absurd made

pub made-may-be : MadeMayBe
made-may-be plan m u e is kept can id made = made_may plan is m kept u e (can_facts plan m e can) id made

-- ---- at the start

at_first : (plan : Plan) (s c : ℕ) (id : SaveId) → MustBeSaved plan (beginning plan s c) id → id.window ≡ c
unfolding beginning
at_first plan s c id (inl now) =
    let begun : oper (beginning plan s c) id.op ≡ record { boundary = 0; parts = replicate (operator plan id.op).first (fresh c) } =
    get_or-map (λ (p : Operator). record { boundary = 0; parts = replicate p.first (fresh c) }) plan.operators id.op no_operator in
    let e = ap (λ (q : Oper). length q.parts) begun in
    let f = length-replicate (operator plan id.op).first (fresh c) in
    let there = now.0.1 in
    let low : id.part < (operator plan id.op).first = omega arith in
    let same : slot (beginning plan s c) id.op id.part ≡ fresh c = ap (λ (q : Oper). get_or q.parts id.part (fresh 0)) begun ∙ fresh_at c (operator plan id.op).first id.part low in
    sym (alone c id.window (subst (λ (x : Slot). has x.saved id.window ≡ true) same now.2))
at_first plan s c id (inr left) = absurd (let gone : true ≡ false = sym (all_left plan.lines left.0.by left.0.there) ∙ left.0.met in cc)

pub none-at-first : NoneAtFirst
none-at-first plan s c id must = at_first plan s c id must
