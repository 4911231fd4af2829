-- The tests of the table and the facts that they stand for, each way.
use Rattle.std.proofs.Common.{◌≡◌, ℕ, zero, suc, ◌+◌, ◌*◌, ◌<◌, ◌≤◌, ◌⊎◌, inl, inr, Bool, true, false, cond, not, ◌&&◌, ◌||◌, ◌==◌, nat_lt, nat_le, List, [], ◌∷◌, length, get_or, refl, sym, ap, subst, ◌∙◌, arith, Option, None, Some, is_none}
use Rattle.std.proofs.lemmas.Bool.{leb-true, le-leb}
use Rattle.std.proofs.lemmas.Bool.Decides.{nat_tests}
use Rattle.apx_history.specs.declared.Event.{Event}
use Rattle.apx_history.specs.declared.Event.TheVariants.{Start, Write, Finish, Save, Advance, Commit, Purge, Kill, Repartition, End, Fault}
use Rattle.apx_history.specs.Plan.{Plan, has, line, reads, is_checkpoint, last_checkpoint, splits, kills}
use Rattle.apx_history.specs.State.{Slot, State, oper, parts, slot, IsPart, is_left, open_window, opens, all_below, all_parts, all_slots}
use Rattle.apx_history.specs.Enabled.{limit, is_part, at_act, due, in_tree, calm, calm_above, sources_have, readers_reach, advance_to, least_rc, tree_closed, rests_at, all_met, can_start, can_write, can_finish, can_save, can_advance, can_commit, can_purge, can_kill, can_repartition, can_end, can_now}
use Rattle.apx_history.specs.Conditions.{IsCalm, IsCalmAbove, IsDue, CanStart, CanWrite, CanFinish, CanSave, CanAdvance, CanCommit, CanPurge, CanKill, CanRepartition, CanEnd, Enabled}
use Rattle.apx_history.proofs.Tests.{both, either, either_at, test, not_true, is_not, slots_at, slots_by, below_at, below_by, one_of, or_right}

pub opened_at : (w : ℕ) (x : Option (ℕ × ℕ)) → opens w x ≡ true → open_window x ≡ Some w
opened_at w None h = cc
opened_at w (Some o) h = let e : o.0 ≡ w = grind (arith, nat_tests) in ap Some e

pub opened_by : (w : ℕ) (x : Option (ℕ × ℕ)) → open_window x ≡ Some w → opens w x ≡ true
opened_by w None h = cc
opened_by w (Some o) h = let e : o.0 ≡ w = cc in grind (arith, nat_tests)

pub none_at : {X : Type 0} (x : Option X) → is_none x ≡ true → x ≡ None
none_at None h = refl
none_at (Some o) h = cc

pub none_by : {X : Type 0} (x : Option X) → x ≡ None → is_none x ≡ true
none_by x h = ap is_none h

pub all_true : {a b : Bool} → a ≡ true → b ≡ true → (a && b) ≡ true
all_true {a = a} {b = b} h k = rw h k

never : (a b : Bool) → not (a && b) ≡ true → a ≡ true → b ≡ true → ⊥
never true true h s t = cc
never true false h s t = cc
never false b h s t = cc

never_by : (a b : Bool) → (a ≡ true → b ≡ true → ⊥) → not (a && b) ≡ true
never_by true true h = absurd (h refl refl)
never_by true false h = refl
never_by false b h = refl

pub part_at : (m : State) (o i : ℕ) → is_part m o i ≡ true → IsPart m o i
part_at m o i h = (grind (arith, nat_tests), grind (arith, nat_tests))

pub part_by : (m : State) (o i : ℕ) → IsPart m o i → is_part m o i ≡ true
part_by m o i h = all_true (le-leb (suc o) (length m.ops) (omega arith)) (le-leb (suc i) (parts m o) (omega arith))

pub equal_by : (a b : ℕ) → a ≡ b → a == b ≡ true
equal_by a b e = grind (arith, nat_tests)

pub equal_at : (a b : ℕ) → a == b ≡ true → a ≡ b
equal_at a b h = grind (arith, nat_tests)

-- no flag is set
pub met_at : (xs : List Bool) → all_met xs ≡ true → (l : ℕ) → get_or xs l false ≡ false
unfolding all_met
met_at [] h l = refl
met_at (x ∷ xs) h zero = is_not x (both (not x) (all_met xs) h).0
met_at (x ∷ xs) h (suc l) = met_at xs (both (not x) (all_met xs) h).1 l

pub met_by : (xs : List Bool) → ((l : ℕ) → get_or xs l false ≡ false) → all_met xs ≡ true
unfolding all_met
met_by [] h = refl
met_by (x ∷ xs) h = all_true (ap not (h 0)) (met_by xs (λ l. h (suc l)))

module _ (plan : Plan) (m : State) where
  pub calm_at : (o i : ℕ) → calm plan m o i ≡ true → IsCalm plan m o i
  unfolding calm
  calm_at o i h l r = never _ _ (below_at (length plan.lines) (λ l. not (due plan m l && kills o i (line plan l))) h l r)

  pub calm_by : (o i : ℕ) → IsCalm plan m o i → calm plan m o i ≡ true
  unfolding calm
  calm_by o i h = below_by (length plan.lines) (λ l. not (due plan m l && kills o i (line plan l))) (λ l r. never_by _ _ (h l r))

  pub above_at : (o i : ℕ) → calm_above plan m o i ≡ true → IsCalmAbove plan m o i
  unfolding calm_above
  above_at o i h l r = never _ _ (below_at (length plan.lines) (λ l. not (due plan m l && in_tree plan l o i)) h l r)

  pub above_by : (o i : ℕ) → IsCalmAbove plan m o i → calm_above plan m o i ≡ true
  unfolding calm_above
  above_by o i h = below_by (length plan.lines) (λ l. not (due plan m l && in_tree plan l o i)) (λ l r. never_by _ _ (h l r))

  pub readers_at : (o w : ℕ) → readers_reach plan m o w ≡ true → (r j : ℕ) → IsPart m r j → reads plan r o ≡ true → w ≤ (slot m r j).rc
  unfolding readers_reach
  readers_at o w h r j p t = leb-true w (slot m r j).rc (either_at (reads plan r o) (nat_le w (slot m r j).rc) (slots_at m _ h r j p) t)

  pub readers_by : (o w : ℕ) → ((r j : ℕ) → IsPart m r j → reads plan r o ≡ true → w ≤ (slot m r j).rc) → readers_reach plan m o w ≡ true
  unfolding readers_reach
  readers_by o w h = slots_by m _ (λ r j p. either (reads plan r o) (nat_le w (slot m r j).rc) (λ t. le-leb w (slot m r j).rc (h r j p t)))

  sources_at : (o w : ℕ) → sources_have plan m o w ≡ true → (s j : ℕ) → IsPart m s j → reads plan o s ≡ true → w ≤ (slot m s j).at
  unfolding sources_have
  sources_at o w h s j p t = leb-true w (slot m s j).at (either_at (reads plan o s) (nat_le w (slot m s j).at) (slots_at m _ h s j p) t)

  sources_by : (o w : ℕ) → ((s j : ℕ) → IsPart m s j → reads plan o s ≡ true → w ≤ (slot m s j).at) → sources_have plan m o w ≡ true
  unfolding sources_have
  sources_by o w h = slots_by m _ (λ s j p. either (reads plan o s) (nat_le w (slot m s j).at) (λ t. le-leb w (slot m s j).at (h s j p t)))

  pub due_at : (l : ℕ) → due plan m l ≡ true → IsDue plan m l
  unfolding due
  due_at l h = record { left = grind (arith, nat_tests); above = grind (arith, nat_tests); within = grind (arith, nat_tests); point = grind (arith, nat_tests) }

  pub due_by : (l : ℕ) → IsDue plan m l → due plan m l ≡ true
  unfolding due
  due_by l h = all_true (all_true (all_true h.left (le-leb _ _ h.above)) (le-leb _ _ h.within)) h.point

  pub start_at : (o i w : ℕ) → can_start plan m o i w ≡ true → CanStart plan m o i w
  unfolding can_start
  start_at o i w h =
      let here : is_part m o i ≡ true = grind (arith, nat_tests) in
      let none : is_none (slot m o i).opened ≡ true = grind (arith, nat_tests) in
      let due' : (not (is_checkpoint plan (slot m o i).at) || has (slot m o i).saved (slot m o i).at) ≡ true = grind (arith, nat_tests) in
      let have : sources_have plan m o w ≡ true = grind (arith, nat_tests) in
      let rests : calm_above plan m o i ≡ true = grind (arith, nat_tests) in
      record {
        part = part_at m o i here;
        next = grind (arith, nat_tests);
        closed = none_at (slot m o i).opened none;
        windows = grind (arith, nat_tests);
        ahead = grind (arith, nat_tests);
        limit = grind (arith, nat_tests);
        saved = either_at (is_checkpoint plan (slot m o i).at) (has (slot m o i).saved (slot m o i).at) due';
        sources = sources_at o w have;
        calm = above_at o i rests;
      }

  pub start_by : (o i w : ℕ) → CanStart plan m o i w → can_start plan m o i w ≡ true
  unfolding can_start
  start_by o i w h =
      all_true (all_true (all_true (all_true (all_true (all_true (all_true (all_true
      (part_by m o i h.part) (equal_by w ((slot m o i).at + 1) h.next)) (none_by (slot m o i).opened h.closed)) (le-leb w plan.windows h.windows))
      (le-leb w (m.committed + 4 * plan.every) h.ahead)) (le-leb w (limit plan m o) h.limit))
      (either (is_checkpoint plan (slot m o i).at) (has (slot m o i).saved (slot m o i).at) h.saved)) (sources_by o w h.sources)) (above_by o i h.calm)

  pub write_at : (w : ℕ) → can_write plan m w ≡ true → CanWrite plan m w
  unfolding can_write
  write_at w h =
      let here : is_part m plan.sink 0 ≡ true = grind (arith, nat_tests) in
      let open' : opens w (slot m plan.sink 0).opened ≡ true = grind (arith, nat_tests) in
      let rests : calm plan m plan.sink 0 ≡ true = grind (arith, nat_tests) in
      record { part = part_at m plan.sink 0 here; opened = opened_at w (slot m plan.sink 0).opened open'; next = grind (arith, nat_tests); calm = calm_at plan.sink 0 rests }

  pub write_by : (w : ℕ) → CanWrite plan m w → can_write plan m w ≡ true
  unfolding can_write
  write_by w h = all_true (all_true (all_true (part_by m plan.sink 0 h.part) (opened_by w (slot m plan.sink 0).opened h.opened)) (equal_by w (m.stored + 1) h.next)) (calm_by plan.sink 0 h.calm)

  pub finish_at : (o i w : ℕ) → can_finish plan m o i w ≡ true → CanFinish plan m o i w
  unfolding can_finish
  finish_at o i w h =
      let here : is_part m o i ≡ true = grind (arith, nat_tests) in
      let open' : opens w (slot m o i).opened ≡ true = grind (arith, nat_tests) in
      let rests : calm plan m o i ≡ true = grind (arith, nat_tests) in
      let store : (not (o == plan.sink) || nat_le w m.stored) ≡ true = grind (arith, nat_tests) in
      record {
        part = part_at m o i here;
        opened = opened_at w (slot m o i).opened open';
        stored = λ e. leb-true w m.stored (either_at (o == plan.sink) (nat_le w m.stored) store (equal_by o plan.sink e));
        calm = calm_at o i rests;
      }

  pub finish_by : (o i w : ℕ) → CanFinish plan m o i w → can_finish plan m o i w ≡ true
  unfolding can_finish
  finish_by o i w h =
      all_true (all_true (all_true (part_by m o i h.part) (opened_by w (slot m o i).opened h.opened))
      (either (o == plan.sink) (nat_le w m.stored) (λ t. le-leb w m.stored (h.stored (equal_at o plan.sink t))))) (calm_by o i h.calm)

  pub save_at : (o i w : ℕ) → can_save plan m o i w ≡ true → CanSave plan m o i w
  unfolding can_save
  save_at o i w h =
      let here : is_part m o i ≡ true = grind (arith, nat_tests) in
      let rests : calm plan m o i ≡ true = grind (arith, nat_tests) in
      let none : is_none (slot m o i).opened ≡ true = grind (arith, nat_tests) in
      let free : not (has (slot m o i).saved w) ≡ true = grind (arith, nat_tests) in
      record {
        part = part_at m o i here;
        now = grind (arith, nat_tests);
        positive = grind (arith, nat_tests);
        checkpoint = grind (arith, nat_tests);
        unsaved = is_not (has (slot m o i).saved w) free;
        closed = none_at (slot m o i).opened none;
        calm = calm_at o i rests;
      }

  pub save_by : (o i w : ℕ) → CanSave plan m o i w → can_save plan m o i w ≡ true
  unfolding can_save
  save_by o i w h =
      all_true (all_true (all_true (all_true (all_true (all_true (part_by m o i h.part) (equal_by w (slot m o i).at h.now)) (le-leb 1 w h.positive)) h.checkpoint)
      (ap not h.unsaved)) (none_by (slot m o i).opened h.closed)) (calm_by o i h.calm)

  pub advance_at : (o i w : ℕ) → can_advance plan m o i w ≡ true → CanAdvance plan m o i w
  unfolding can_advance
  advance_at o i w h =
      let here : is_part m o i ≡ true = grind (arith, nat_tests) in
      let rests : calm plan m o i ≡ true = grind (arith, nat_tests) in
      record { part = part_at m o i here; to = grind (arith, nat_tests); above = grind (arith, nat_tests); calm = calm_at o i rests }

  pub advance_by : (o i w : ℕ) → CanAdvance plan m o i w → can_advance plan m o i w ≡ true
  unfolding can_advance
  advance_by o i w h =
      all_true (all_true (all_true (part_by m o i h.part) (equal_by w (advance_to plan m o i) h.to)) (le-leb (suc (slot m o i).rc) w (omega (arith, h.above)))) (calm_by o i h.calm)

  pub commit_at : (w : ℕ) → can_commit plan m w ≡ true → CanCommit plan m w
  unfolding can_commit
  commit_at w h = record { to = grind (arith, nat_tests); above = grind (arith, nat_tests) }

  pub commit_by : (w : ℕ) → CanCommit plan m w → can_commit plan m w ≡ true
  unfolding can_commit
  commit_by w h = all_true (equal_by w (least_rc plan m) h.to) (le-leb (suc m.committed) w (omega (arith, h.above)))

  pub purge_at : (o i w : ℕ) → can_purge plan m o i w ≡ true → CanPurge plan m o i w
  unfolding can_purge
  purge_at o i w h =
      let here : is_part m o i ≡ true = grind (arith, nat_tests) in
      let inner' : not (o == plan.sink) ≡ true = grind (arith, nat_tests) in
      let reach : readers_reach plan m o w ≡ true = grind (arith, nat_tests) in
      record {
        part = part_at m o i here;
        inner = λ e. (let no : false ≡ true = sym (is_not (o == plan.sink) inner') ∙ equal_by o plan.sink e in cc);
        above = grind (arith, nat_tests);
        within = grind (arith, nat_tests);
        readers = readers_at o w reach;
      }

  pub purge_by : (o i w : ℕ) → CanPurge plan m o i w → can_purge plan m o i w ≡ true
  unfolding can_purge
  purge_by o i w h =
      all_true (all_true (all_true (all_true (part_by m o i h.part) (ap not (not_true (o == plan.sink) (λ t. h.inner (equal_at o plan.sink t)))))
      (le-leb (suc (slot m o i).floor) w (omega (arith, h.above)))) (le-leb w (slot m o i).at h.within)) (readers_by o w h.readers)

  closed_at : (a b c : Bool) → (not a || b || c) ≡ true → a ≡ true → (b ≡ true) ⊎ (c ≡ true)
  closed_at true true c h t = inl refl
  closed_at true false c h t = inr h
  closed_at false b c h t = cc

  closed_by : (a b c : Bool) → (a ≡ true → (b ≡ true) ⊎ (c ≡ true)) → (not a || b || c) ≡ true
  closed_by true b c h = elim (h refl) [ inl s ↦ rw s | inr s ↦ or_right b c s ]
  closed_by false b c h = refl

  pub kill_at : (l : ℕ) → can_kill plan m l ≡ true → CanKill plan m l
  unfolding can_kill tree_closed
  kill_at l h = record {
    due = (both (due plan m l) (tree_closed plan m l) h).0;
    closed = λ o i p t. elim (closed_at (in_tree plan l o i) (kills o i (line plan l)) (is_none (slot m o i).opened) (slots_at m _ (both (due plan m l) (tree_closed plan m l) h).1 o i p) t) [
      | inl s ↦ inl s
      | inr s ↦ inr (none_at (slot m o i).opened s)
    ];
  }

  pub kill_by : (l : ℕ) → CanKill plan m l → can_kill plan m l ≡ true
  unfolding can_kill tree_closed
  kill_by l h = all_true h.due (slots_by m _ (λ o i p. closed_by (in_tree plan l o i) (kills o i (line plan l)) (is_none (slot m o i).opened) (λ t. elim (h.closed o i p t) [ inl s ↦ inl s | inr s ↦ inr (none_by (slot m o i).opened s) ])))

  pub repartition_at : (l : ℕ) → can_repartition plan m l ≡ true → CanRepartition plan m l
  unfolding can_repartition rests_at
  repartition_at l h =
      let o : ℕ = (line plan l).op in
      let w : ℕ = (line plan l).window in
      let rests : all_parts m o (λ i. (slot m o i).rc == w && is_none (slot m o i).opened) ≡ true = grind (arith, nat_tests) in
      record {
        left = grind (arith, nat_tests);
        splits = grind (arith, nat_tests);
        window = grind (arith, nat_tests);
        rests = λ i r.
            let e = both ((slot m o i).rc == w) (is_none (slot m o i).opened) (below_at (parts m o) (λ i. (slot m o i).rc == w && is_none (slot m o i).opened) rests i r) in
            (equal_at (slot m o i).rc w e.0, none_at (slot m o i).opened e.1);
      }

  pub repartition_by : (l : ℕ) → CanRepartition plan m l → can_repartition plan m l ≡ true
  unfolding can_repartition rests_at
  repartition_by l h =
      let o : ℕ = (line plan l).op in
      let w : ℕ = (line plan l).window in
      all_true (all_true (all_true h.left h.splits) (equal_by w (limit plan m o) h.window))
      (below_by (parts m o) (λ i. (slot m o i).rc == w && is_none (slot m o i).opened) (λ i r. all_true (equal_by (slot m o i).rc w (h.rests i r).0) (none_by (slot m o i).opened (h.rests i r).1)))

  pub end_at : can_end plan m ≡ true → CanEnd plan m
  unfolding can_end
  end_at h =
      let p : ℕ → ℕ → Bool = λ o i. is_none (slot m o i).opened && (slot m o i).at == plan.windows && (slot m o i).rc == last_checkpoint plan plan.windows in
      let ab = both (all_slots m p && m.committed == last_checkpoint plan plan.windows) (all_met m.left) h in
      let a = both (all_slots m p) (m.committed == last_checkpoint plan plan.windows) ab.0 in
      let e : (o i : ℕ) → IsPart m o i → p o i ≡ true = slots_at m p a.0 in
      record {
        closed = λ o i r. none_at (slot m o i).opened (both _ _ (both (is_none (slot m o i).opened && (slot m o i).at == plan.windows) _ (e o i r)).0).0;
        at = λ o i r. equal_at (slot m o i).at plan.windows (both _ _ (both (is_none (slot m o i).opened && (slot m o i).at == plan.windows) _ (e o i r)).0).1;
        rc = λ o i r. equal_at (slot m o i).rc (last_checkpoint plan plan.windows) (both (is_none (slot m o i).opened && (slot m o i).at == plan.windows) _ (e o i r)).1;
        committed = equal_at m.committed (last_checkpoint plan plan.windows) a.1;
        met = met_at m.left ab.1;
      }

  pub end_by : CanEnd plan m → can_end plan m ≡ true
  unfolding can_end
  end_by h = all_true (all_true (slots_by m _ (λ o i r. all_true (all_true (none_by (slot m o i).opened (h.closed o i r)) (equal_by (slot m o i).at plan.windows (h.at o i r))) (equal_by (slot m o i).rc (last_checkpoint plan plan.windows) (h.rc o i r))))
      (equal_by m.committed (last_checkpoint plan plan.windows) h.committed)) (met_by m.left h.met)

  -- the facts that an event has where it may come next
  pub facts_of : (e : Event) → can_now plan m e ≡ true → Enabled plan m e
  facts_of (Start o i w) h = start_at o i w h
  facts_of (Write w) h = write_at w h
  facts_of (Finish o i w) h = finish_at o i w h
  facts_of (Save o i w) h = save_at o i w h
  facts_of (Advance o i w) h = advance_at o i w h
  facts_of (Commit w) h = commit_at w h
  facts_of (Purge o i w) h = purge_at o i w h
  facts_of (Kill l) h = kill_at l h
  facts_of (Repartition l) h = repartition_at l h
  facts_of End h = end_at h
  facts_of (Fault s) h = h

  pub can_by : (e : Event) → Enabled plan m e → can_now plan m e ≡ true
  can_by (Start o i w) h = start_by o i w h
  can_by (Write w) h = write_by w h
  can_by (Finish o i w) h = finish_by o i w h
  can_by (Save o i w) h = save_by o i w h
  can_by (Advance o i w) h = advance_by o i w h
  can_by (Commit w) h = commit_by w h
  can_by (Purge o i w) h = purge_by o i w h
  can_by (Kill l) h = kill_by l h
  can_by (Repartition l) h = repartition_by l h
  can_by End h = end_by h
  can_by (Fault s) h = h
