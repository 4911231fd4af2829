-- Each event of one partition keeps what every state keeps.
use Rattle.std.proofs.Common.{◌≡◌, ℕ, zero, suc, ◌+◌, ◌*◌, ◌<◌, ◌≤◌, ◌⊎◌, inl, inr, Bool, true, false, cond, not, ◌&&◌, ◌||◌, ◌==◌, List, [], ◌∷◌, ◌++◌, length, get_or, refl, sym, ap, subst, ◌∙◌, arith, Option, None, Some, is_none}
use Rattle.std.proofs.lemmas.Bool.{le-leb}
use Rattle.std.proofs.lemmas.Bool.Decides.{nat_tests}
use Rattle.apx_history.specs.Plan.{Point, Before, Staged, Written, Done, Act, Fails, Splits, Line, Plan, has, operator, line, reads, below, is_checkpoint, splits, splits_op, kills}
use Rattle.apx_history.specs.State.{Slot, State, Oper, oper, parts, slot, IsPart, is_left, open_window, opens, put}
use Rattle.apx_history.specs.Enabled.{limit, due, at_point, in_tree, advance_to, greatest, readers_reach}
use Rattle.apx_history.specs.Effects.{started, finished, saves, advanced, purged}
use Rattle.apx_history.specs.Conditions.{IsCalm, IsCalmAbove, CanStart, CanWrite, CanFinish, CanSave, CanAdvance, CanPurge, CanEnd}
use Rattle.apx_history.specs.Kept.{IsAct, IsPlan, IsAscending, Sound, Ordered, IsAhead, ActAhead, Kept}
use Rattle.apx_history.proofs.Tests.{both, test, alike, not_true, or_right, one_of, has-append, ascending-append, greatest-is, greatest-above}
use Rattle.apx_history.proofs.Slots.{put_ops, put_boundary, put_parts, part_was, part_is, put_slot, slot_other}
use Rattle.apx_history.proofs.Conditions.{all_true, equal_by, opened_at, opened_by, none_by, readers_at}
use Rattle.apx_history.proofs.Lines.{limit-start}
use Rattle.apx_history.proofs.Frames.{Alike, keeps_shape, line_there, named_part, not_due, sink_at, is_before, is_staged, is_written, is_done}

-- what is owed of a partition that changed
pub record Changed (plan : Plan) (m : State) (o i : ℕ) (x : Slot) : Type 0 where
  pub sound : Sound plan m.committed (oper m o).boundary (limit plan m o) x
  pub above : (s j : ℕ) → reads plan o s ≡ true → IsPart m s j → Ordered (slot m s j) x
  pub under : (r j : ℕ) → reads plan r o ≡ true → IsPart m r j → Ordered x (slot m r j)
  pub sink : o ≡ plan.sink → x.at ≤ m.stored
  pub ahead : (l : ℕ) (point : Point) → is_left m l ≡ true → (line plan l).op ≡ o → (line plan l).act ≡ Fails point i → (line plan l).window ≤ limit plan m o → IsAhead point (line plan l).window x

pub none_open : {w : ℕ} (x : Option (ℕ × ℕ)) → x ≡ None → open_window x ≡ Some w → ⊥
none_open x e h = let f : open_window None ≡ Some _ = ap open_window (sym e) ∙ h in cc

some_open : {w : ℕ} (x : Option (ℕ × ℕ)) → open_window x ≡ Some w → x ≡ None → ⊥
some_open x h e = none_open x e h

same_window : {v w : ℕ} (x : Option (ℕ × ℕ)) → open_window x ≡ Some v → open_window x ≡ Some w → v ≡ w
same_window x h k = let e : Some _ ≡ Some _ = sym h ∙ k in cc

module _ (plan : Plan) (is : IsPlan plan) (m : State) (kept : Kept plan m) where
  no_loop : (o : ℕ) → reads plan o o ≡ true → ⊥
  no_loop o h = let e : true ≡ false = sym (is.direct o o h) ∙ is.acyclic o in cc

  pub keeps_one : (o i : ℕ) (x : Slot) → IsPart m o i → Changed plan m o i x → Kept plan (put m o i x)
  unfolding put
  keeps_one o i x here new = keeps_shape plan is m kept (put m o i x)
      (record { ops = put_ops m o i x here; boundary = λ p r. put_boundary m o i x here p; parts = λ p r. put_parts m o i x here p })
      refl (λ l h. h) (λ l s h. h)
      (λ p j r. put_slot m o i x here (λ p j y. Sound plan m.committed (oper m p).boundary (limit plan m p) y) new.sound p j (λ n. kept.each p j (part_was m o i x here p j r)))
      (λ p s h k j rp rs. put_slot m o i x here (λ q k y. q ≡ p → Ordered (slot (put m o i x) s j) y)
      (λ e. put_slot m o i x here (λ q j y. q ≡ s → IsPart m s j → Ordered y x)
      (λ f. absurd (no_loop o (subst (λ (t : ℕ). reads plan t o ≡ true) (sym e) (subst (λ (t : ℕ). reads plan p t ≡ true) (sym f) h))))
      s j (λ n f g. new.above s j (subst (λ (t : ℕ). reads plan t s ≡ true) (sym e) h) g) refl (part_was m o i x here s j rs))
      p k
      (λ n e. put_slot m o i x here (λ q j y. q ≡ s → IsPart m s j → Ordered y (slot m p k))
      (λ f g. new.under p k (subst (λ (t : ℕ). reads plan p t ≡ true) (sym f) h) (part_was m o i x here p k rp))
      s j (λ n f g. kept.ordered p s h k j (part_was m o i x here p k rp) g) refl (part_was m o i x here s j rs))
      refl)
      (put_slot m o i x here (λ p j y. p ≡ plan.sink → y.at ≤ m.stored) new.sink plan.sink 0 (λ n e. kept.sink) refl)
      kept.stored
      (λ l h. ahead l h (line plan l).act refl (kept.ahead l h))
    where
      ahead : (l : ℕ) → is_left m l ≡ true → (a : Act) → (line plan l).act ≡ a → ActAhead m (limit plan m (line plan l).op) (line plan l).op (line plan l).window a →
          ActAhead (put m o i x) (limit plan m (line plan l).op) (line plan l).op (line plan l).window a
      ahead l h (Splits count) e old = tt
      ahead l h (Fails point part) e old = λ within.
          put_slot m o i x here (λ p j y. p ≡ (line plan l).op → j ≡ part → IsAhead point (line plan l).window y)
          (λ f g. new.ahead l point h (sym f) (e ∙ ap (λ (k : ℕ). Fails point k) (sym g)) (subst (λ (p : ℕ). (line plan l).window ≤ limit plan m p) (sym f) within))
          (line plan l).op part (λ n f g. old within) refl refl

  -- what was kept of the kills of a partition
  old_ahead : (o i l : ℕ) (point : Point) → is_left m l ≡ true → (line plan l).op ≡ o → (line plan l).act ≡ Fails point i → (line plan l).window ≤ limit plan m o → IsAhead point (line plan l).window (slot m o i)
  old_ahead o i l point h e a within =
      let old : ActAhead m (limit plan m (line plan l).op) (line plan l).op (line plan l).window (Fails point i) =
      subst (λ (x : Act). ActAhead m (limit plan m (line plan l).op) (line plan l).op (line plan l).window x) a (kept.ahead l h) in
      subst (λ (p : ℕ). IsAhead point (line plan l).window (slot m p i)) e (old (subst (λ (p : ℕ). (line plan l).window ≤ limit plan m p) (sym e) within))

  calm_below : (o i : ℕ) → IsCalmAbove plan m o i → IsCalm plan m o i
  unfolding in_tree
  calm_below o i h l r d k = h l r d (either_way (kills o i (line plan l)) (below plan (line plan l).op o) k)
    where
      either_way : (a b : Bool) → a ≡ true → (a || b) ≡ true
      either_way true b h = refl
      either_way false b h = cc

  pub keeps_start : (o i w u : ℕ) → CanStart plan m o i w → Kept plan (put m o i (started w u (slot m o i)))
  keeps_start o i w u can =
      let s = kept.each o i can.part in
      keeps_one o i (started w u (slot m o i)) can.part (record {
        sound = record {
          committed = s.committed;
          rc = s.rc;
          at = s.at;
          floor = s.floor;
          rc_saved = s.rc_saved;
          saved = s.saved;
          whole = s.whole;
          ascending = s.ascending;
          opened = λ v h. (let e : w ≡ v = cc in (sym e ∙ can.next, subst (λ (k : ℕ). k ≤ limit plan m o) e can.limit, can.saved));
        };
        above = λ q j h r. (let f = kept.ordered o q h i j can.part r in record { rc = f.rc; floor = f.floor; opened = λ v g. (let e : w ≡ v = cc in subst (λ (k : ℕ). k ≤ (slot m q j).at) e (can.sources q j r h)) });
        under = λ p j h r. (let f = kept.ordered p o h j i r can.part in record { rc = f.rc; floor = f.floor; opened = f.opened });
        sink = λ e. sink_at plan is m kept o i e can.part;
        ahead = λ l point h e a within. by l point h e a within (old_ahead o i l point h e a within);
      })
    where
      by : (l : ℕ) (point : Point) → is_left m l ≡ true → (line plan l).op ≡ o → (line plan l).act ≡ Fails point i → (line plan l).window ≤ limit plan m o →
          IsAhead point (line plan l).window (slot m o i) → IsAhead point (line plan l).window (started w u (slot m o i))
      by l point h e a within (inl old) = inl (
        old.0,
        λ before g.
            (let f : w ≡ (line plan l).window = cc in
            not_due plan is m kept l o i point (calm_below o i can.calm) h e a within
            (is_before plan m o (line plan l).window (slot m o i) point before (sym can.next ∙ f) can.closed)),
      )
      by l point h e a within (inr old) =
          absurd (not_due plan is m kept l o i point (calm_below o i can.calm) h e a within (is_done plan m o (line plan l).window (slot m o i) point old.0 old.1 can.closed))

  pub keeps_finish : (o i w : ℕ) → CanFinish plan m o i w → Kept plan (put m o i (finished w (slot m o i)))
  keeps_finish o i w can =
      let s = kept.each o i can.part in
      let next = s.opened w can.opened in
      let n : w ≡ (slot m o i).at + 1 = next.0 in
      keeps_one o i (finished w (slot m o i)) can.part (record {
        sound = record {
          committed = s.committed;
          rc = (let a = s.rc in omega arith);
          at = next.1;
          floor = (let a = s.floor in omega arith);
          rc_saved = s.rc_saved;
          saved = λ v h. (let f = s.saved v h in (f.0, f.1, f.2, (let a = f.3 in omega arith)));
          whole = λ v c a b h. elim (alike v (slot m o i).at) [
            | inl e ↦ subst (λ (k : ℕ). has (slot m o i).saved k ≡ true) (sym e) (next.2 (subst (λ (k : ℕ). is_checkpoint plan k ≡ true) e c))
            | inr e ↦ s.whole v c a b (omega arith)
          ];
          ascending = s.ascending;
          opened = λ v h. absurd (none_open None refl h);
        };
        above = λ q j h r. (let f = kept.ordered o q h i j can.part r in record { rc = f.rc; floor = f.floor; opened = λ v g. absurd (none_open None refl g) });
        under = λ p j h r. (let f = kept.ordered p o h j i r can.part in record { rc = f.rc; floor = f.floor; opened = λ v g. (let a = f.opened v g in omega arith) });
        sink = can.stored;
        ahead = λ l point h e a within. by l point h e a within (old_ahead o i l point h e a within);
      })
    where
      -- the window of the line was open, and is finished
      reached : (l : ℕ) (point : Point) → is_left m l ≡ true → (line plan l).op ≡ o → (line plan l).act ≡ Fails point i → (line plan l).window ≤ limit plan m o → w ≡ (line plan l).window →
          (point ≡ Before → open_window (slot m o i).opened ≡ Some (line plan l).window → ⊥) → IsAhead point (line plan l).window (finished w (slot m o i))
      reached l Before h e a within f old = absurd (old refl (can.opened ∙ ap Some f))
      reached l Staged h e a within f old =
          absurd (not_due plan is m kept l o i Staged can.calm h e a within (is_staged plan m o (line plan l).window (slot m o i) Staged refl (can.opened ∙ ap Some f)))
      reached l Written h e a within f old =
          let act : IsAct plan (line plan l).op (line plan l).window (Fails Written i) = subst (λ (x : Act). IsAct plan (line plan l).op (line plan l).window x) a (is.act l (line_there plan is m kept l h)) in
          let s : o ≡ plan.sink = sym e ∙ act.1 refl in
          absurd (not_due plan is m kept l o i Written can.calm h e a within
          (is_written plan m o (line plan l).window (slot m o i) Written refl s (can.opened ∙ ap Some f) (subst (λ (k : ℕ). k ≤ m.stored) f (can.stored s))))
      reached l Done h e a within f old = inr (
        refl,
        f,
        refl,
        not_true (has (slot m o i).saved (line plan l).window)
            (λ g. (let k = (kept.each o i can.part).saved (line plan l).window g in let n = ((kept.each o i can.part).opened w can.opened).0 in let b = k.3 in omega arith)),
      )

      by : (l : ℕ) (point : Point) → is_left m l ≡ true → (line plan l).op ≡ o → (line plan l).act ≡ Fails point i → (line plan l).window ≤ limit plan m o →
          IsAhead point (line plan l).window (slot m o i) → IsAhead point (line plan l).window (finished w (slot m o i))
      by l point h e a within (inr old) = absurd (some_open (slot m o i).opened can.opened old.2)
      by l point h e a within (inl old) = elim (alike w (line plan l).window) [
        | inr f ↦ inl ((let n = ((kept.each o i can.part).opened w can.opened).0 in let b = old.0 in omega arith), λ before g. none_open None refl g)
        | inl f ↦ reached l point h e a within f old.1
      ]

  pub keeps_save : (o i w : ℕ) → CanSave plan m o i w → Kept plan (put m o i (saves w (slot m o i)))
  unfolding has
  keeps_save o i w can =
      let s = kept.each o i can.part in
      let now : w ≡ (slot m o i).at = can.now in
      keeps_one o i (saves w (slot m o i)) can.part (record {
        sound = record {
          committed = s.committed;
          rc = s.rc;
          at = s.at;
          floor = s.floor;
          rc_saved = more (slot m o i).saved (slot m o i).rc (inl s.rc_saved);
          saved = λ v h. elim (fewer (slot m o i).saved v h) [
            | inl g ↦ s.saved v g
            | inr e ↦ (let f = s.saved (slot m o i).rc s.rc_saved in let a = s.rc in
                (subst (λ (k : ℕ). is_checkpoint plan k ≡ true) e can.checkpoint, (let b = f.1 in omega arith), (let b = f.2 in omega arith), omega arith))
          ];
          whole = λ v c a b h. more (slot m o i).saved v (inl (s.whole v c a b h));
          ascending = ascending-append (slot m o i).saved w s.ascending (λ v h. (let f = s.saved v h in let le = f.3 in
              elim (alike v w) [ inl e ↦ absurd (never (sym (subst (λ (k : ℕ). has (slot m o i).saved k ≡ true) e h) ∙ can.unsaved)) | inr n ↦ omega arith ]));
          opened = λ v h. absurd (none_open (slot m o i).opened can.closed h);
        };
        above = λ q j h r. (let f = kept.ordered o q h i j can.part r in record { rc = f.rc; floor = f.floor; opened = f.opened });
        under = λ p j h r. (let f = kept.ordered p o h j i r can.part in record { rc = f.rc; floor = f.floor; opened = f.opened });
        sink = λ e. sink_at plan is m kept o i e can.part;
        ahead = λ l point h e a within. by l point h e a within (old_ahead o i l point h e a within);
      })
    where
      never : true ≡ false → ⊥
      never h = cc

      more : (xs : List ℕ) (v : ℕ) → (has xs v ≡ true) ⊎ (w ≡ v) → has (xs ++ w ∷ []) v ≡ true
      more xs v (inl h) = has-append xs (w ∷ []) v ∙ ap (λ (b : Bool). b || (w == v || false)) h
      more xs v (inr h) = has-append xs (w ∷ []) v ∙ or_right (has xs v) (w == v || false) (ap (λ (b : Bool). b || false) (equal_by w v h))

      fewer : (xs : List ℕ) (v : ℕ) → has (xs ++ w ∷ []) v ≡ true → (has xs v ≡ true) ⊎ (w ≡ v)
      fewer xs v h = elim (one_of (has xs v) (w == v || false) (sym (has-append xs (w ∷ []) v) ∙ h)) [ inl g ↦ inl g | inr g ↦ inr (grind (arith, nat_tests)) ]

      by : (l : ℕ) (point : Point) → is_left m l ≡ true → (line plan l).op ≡ o → (line plan l).act ≡ Fails point i → (line plan l).window ≤ limit plan m o →
          IsAhead point (line plan l).window (slot m o i) → IsAhead point (line plan l).window (saves w (slot m o i))
      by l point h e a within (inl old) = inl old
      by l point h e a within (inr old) =
          absurd (not_due plan is m kept l o i point can.calm h e a within (is_done plan m o (line plan l).window (slot m o i) point old.0 old.1 can.closed))

  pub keeps_advance : (o i w : ℕ) → CanAdvance plan m o i w → Kept plan (put m o i (advanced w (slot m o i)))
  unfolding advance_to
  keeps_advance o i w can =
      let s = kept.each o i can.part in
      let up = can.above in
      let got : (has (slot m o i).saved w ≡ true) × (readers_reach plan m o w ≡ true) = elim (greatest-is (readers_reach plan m o) (slot m o i).saved) [
        | inl e ↦ absurd (let f = can.to in omega arith)
        | inr e ↦ subst (λ (k : ℕ). (has (slot m o i).saved k ≡ true) × (readers_reach plan m o k ≡ true)) (sym can.to) e
      ] in
      let f = s.saved w got.0 in
      keeps_one o i (advanced w (slot m o i)) can.part (record {
        sound = record {
          committed = f.1;
          rc = f.3;
          at = s.at;
          floor = s.floor;
          rc_saved = got.0;
          saved = s.saved;
          whole = s.whole;
          ascending = s.ascending;
          opened = s.opened;
        };
        above = λ q j h r. (let g = kept.ordered o q h i j can.part r in record { rc = (let a = g.rc in omega arith); floor = (let a = g.floor in omega arith); opened = g.opened });
        under = λ p j h r. (let g = kept.ordered p o h j i r can.part in record { rc = readers_at plan m o w got.1 p j r h; floor = g.floor; opened = g.opened });
        sink = λ e. sink_at plan is m kept o i e can.part;
        ahead = λ l point h e a within. old_ahead o i l point h e a within;
      })

  pub keeps_purge : (o i w : ℕ) → CanPurge plan m o i w → Kept plan (put m o i (purged w (slot m o i)))
  keeps_purge o i w can =
      let s = kept.each o i can.part in
      keeps_one o i (purged w (slot m o i)) can.part (record {
        sound = record {
          committed = s.committed;
          rc = s.rc;
          at = s.at;
          floor = can.within;
          rc_saved = s.rc_saved;
          saved = s.saved;
          whole = s.whole;
          ascending = s.ascending;
          opened = s.opened;
        };
        above = λ q j h r. (let g = kept.ordered o q h i j can.part r in record { rc = g.rc; floor = g.floor; opened = g.opened });
        under = λ p j h r. (let g = kept.ordered p o h j i r can.part in record { rc = g.rc; floor = can.readers p j r h; opened = g.opened });
        sink = λ e. sink_at plan is m kept o i e can.part;
        ahead = λ l point h e a within. old_ahead o i l point h e a within;
      })

  -- what changes no partition and no line
  pub keeps_write : (w : ℕ) → CanWrite plan m w → Kept plan (record m { stored = w })
  keeps_write w can =
      let s = kept.each plan.sink 0 can.part in
      record {
        ops = kept.ops;
        flags = kept.flags;
        each = kept.each;
        ordered = kept.ordered;
        sink = (let a = kept.sink in let b = can.next in omega arith);
        stored = (let a = (s.opened w can.opened).1 in let b = limit-start plan.sink plan.lines m.left plan.windows in omega arith);
        lines = kept.lines;
        ahead = kept.ahead;
        still = kept.still;
        boundary = kept.boundary;
        number = kept.number;
      }

  pub keeps_end : Kept plan (record m { ended = true })
  keeps_end = record {
    ops = kept.ops;
    flags = kept.flags;
    each = kept.each;
    ordered = kept.ordered;
    sink = kept.sink;
    stored = kept.stored;
    lines = kept.lines;
    ahead = kept.ahead;
    still = kept.still;
    boundary = kept.boundary;
    number = kept.number;
  }

  pub keeps_fault : (s : ℕ) → Kept plan (record m { fault = Some s })
  keeps_fault s = record {
    ops = kept.ops;
    flags = kept.flags;
    each = kept.each;
    ordered = kept.ordered;
    sink = kept.sink;
    stored = kept.stored;
    lines = kept.lines;
    ahead = kept.ahead;
    still = kept.still;
    boundary = kept.boundary;
    number = kept.number;
  }
