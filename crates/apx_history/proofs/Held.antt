-- What is needed isn't purged; what a worker opened stays open for it; an open window lies in its epoch.
use Rattle.std.proofs.Common.{◌≡◌, ℕ, zero, suc, ◌+◌, ◌<◌, ◌≤◌, ◌⊎◌, inl, inr, Bool, true, false, cond, not, ◌&&◌, ◌==◌, List, [], ◌∷◌, length, get_or, replicate, refl, sym, ap, subst, ◌∙◌, arith, Option, None, Some}
use Rattle.std.proofs.Math.ListN.{length-set}
use Rattle.std.proofs.lemmas.List.{get_or-set_other}
use Rattle.apx_history.specs.declared.Entry.{Entry}
use Rattle.apx_history.specs.declared.Event.{Event}
use Rattle.apx_history.specs.declared.Event.TheVariants.{Start, Write, Finish, Save, Advance, Commit, Purge, Kill, Repartition, End, Fault}
use Rattle.apx_history.specs.Plan.{Act, Fails, Splits, Plan, line, reads, fails_part, kills, boundary_at, number, count_or}
use Rattle.apx_history.specs.State.{Slot, Oper, State, fresh, no_oper, oper, parts, slot, IsPart, open_window, open_worker, put, map_slots}
use Rattle.apx_history.specs.Enabled.{can, in_tree, readers_rc}
use Rattle.apx_history.specs.Effects.{started, finished, saves, advanced, purged, trimmed, back, back_in, meet, split, next}
use Rattle.apx_history.specs.Conditions.{Enabled, CanStart, CanKill, CanRepartition}
use Rattle.apx_history.specs.Journals.{owed_act, owed, bears, is_legal, after}
use Rattle.apx_history.specs.Kept.{IsPlan, Kept, IsNeeded}
use Rattle.apx_history.specs.Laws.{KeepsWhatIsNeeded, closes, closes_one, IsOpen, StaysOpen, OpensInEpoch}
use Rattle.apx_history.proofs.Tests.{both, test, alike, least-by}
use Rattle.apx_history.proofs.Slots.{put_boundary, part_is, put_slot, map_boundary, map_is, slot_map}
use Rattle.apx_history.proofs.Conditions.{all_true, equal_at, equal_by}
use Rattle.apx_history.proofs.Frames.{in_epoch}
use Rattle.apx_history.proofs.Legal.{can_facts, fits_parts}

-- ---- what is needed

pub keeps-needed : KeepsWhatIsNeeded
unfolding readers_rc
keeps-needed plan m kept o i w r n =
    let s = kept.each o i r in
    let low : (slot m o i).floor ≤ readers_rc plan m o (slot m o i).at = least-by m (λ q j. cond (reads plan q o) (slot m q j).rc (slot m o i).at) (slot m o i).at (slot m o i).floor s.floor
    (λ q j t. by (reads plan q o) (slot m q j).rc (λ h. (kept.ordered q o h j i t r).floor) s.floor) in
    let a = n.0 in
    omega arith
  where
    by : (b : Bool) (x : ℕ) → (b ≡ true → (slot m o i).floor ≤ x) → (slot m o i).floor ≤ (slot m o i).at → (slot m o i).floor ≤ cond b x (slot m o i).at
    by true x h d = h refl
    by false x h d = d

-- ---- the epoch of an open window

pub opens-in-epoch : OpensInEpoch
opens-in-epoch plan m is kept o i w worker b open' =
    let s = kept.each o i open'.part in
    let e = s.opened w (ap open_window open'.opened) in
    let base = s.saved (slot m o i).rc s.rc_saved in
    let f = in_epoch plan is m kept o w open'.part.0 (let a = base.2 in let c = s.rc in let d = e.0 in omega arith) e.1 in
    (f ∙ open'.boundary, kept.number o open'.part.0 ∙ ap (λ (k : ℕ). number plan o k) (sym f))

-- ---- what is open

some_worker : {w u : ℕ} (x : Option (ℕ × ℕ)) → x ≡ Some (w, u) → open_worker x ≡ Some u
some_worker x e = ap open_worker e

not_closed : {w u : ℕ} (x : Option (ℕ × ℕ)) → x ≡ Some (w, u) → x ≡ None → ⊥
not_closed x e f = let g : Some _ ≡ None = sym e ∙ f in cc

borne : {u : ℕ} (x : Option ℕ) (v : ℕ) → x ≡ Some u → bears x v ≡ true → v ≡ u
borne {u = u} x v e h = let f : u == v ≡ true = subst (λ (y : Option ℕ). bears y v ≡ true) e h in sym (equal_at u v f)

module _ (plan : Plan) (m : State) (o i w u b : ℕ) (here : IsOpen m o i w u b) where
  -- a change of one partition that leaves what is open
  put_open : (p j : ℕ) (x : Slot) → IsPart m p j → (p ≡ o → j ≡ i → x.opened ≡ Some (w, u)) → IsOpen (put m p j x) o i w u b
  put_open p j x r new = record {
    part = part_is m p j x r o i here.part;
    opened = put_slot m p j x r (λ q k y. q ≡ o → k ≡ i → y.opened ≡ Some (w, u)) new o i (λ n e f. here.opened) refl refl;
    boundary = put_boundary m p j x r o ∙ here.boundary;
  }

  same_open : (p j : ℕ) (x : Slot) → IsPart m p j → x.opened ≡ (slot m p j).opened → IsOpen (put m p j x) o i w u b
  same_open p j x r e = put_open p j x r (λ f g. e ∙ subst (λ (k : ℕ). (slot m k j).opened ≡ Some (w, u)) (sym f) (subst (λ (k : ℕ). (slot m o k).opened ≡ Some (w, u)) (sym g) here.opened))

  start_open : (p j v x : ℕ) → CanStart plan m p j v → IsOpen (put m p j (started v x (slot m p j))) o i w u b
  start_open p j v x can = put_open p j (started v x (slot m p j)) can.part (λ e f.
      absurd (not_closed (slot m o i).opened here.opened (subst (λ (k : ℕ). (slot m k i).opened ≡ None) e (subst (λ (k : ℕ). (slot m p k).opened ≡ None) f can.closed))))

  map_open : (f : ℕ → ℕ → Slot → Slot) → (f o i (slot m o i)).opened ≡ Some (w, u) → IsOpen (map_slots f m) o i w u b
  map_open f e = record {
    part = map_is f m o i here.part;
    opened = ap (λ (x : Slot). x.opened) (slot_map f m o i here.part) ∙ e;
    boundary = map_boundary f m o here.part.0 ∙ here.boundary;
  }

  -- a kill of its own tree would be the worker's
  kill_open : (l v : ℕ) → CanKill plan m l → bears (owed plan m (Kill l)) v ≡ true → (v ≡ u → kills o i (line plan l) ≡ true → ⊥) → (back_in plan l o i (slot m o i)).opened ≡ Some (w, u)
  kill_open l v can bear own = by (test (in_tree plan l o i))
    where
      killed : (a : Act) → fails_part i a ≡ true → owed_act m o a ≡ open_worker (slot m o i).opened
      killed (Fails point part) h = ap (λ (k : ℕ). open_worker (slot m o k).opened) (equal_at part i h)
      killed (Splits count) h = cc

      owner : kills o i (line plan l) ≡ true → owed plan m (Kill l) ≡ Some u
      owner k =
          let h = both ((line plan l).op == o) (fails_part i (line plan l).act) k in
          ap (λ (p : ℕ). owed_act m p (line plan l).act) (equal_at (line plan l).op o h.0) ∙ killed (line plan l).act h.1 ∙ some_worker (slot m o i).opened here.opened

      by : (in_tree plan l o i ≡ true) ⊎ (in_tree plan l o i ≡ false) → (back_in plan l o i (slot m o i)).opened ≡ Some (w, u)
      by (inr h) = ap (λ (c : Bool). (cond c (back (slot m o i)) (slot m o i)).opened) h ∙ here.opened
      by (inl h) = elim (can.closed o i here.part h) [
        | inl k ↦ absurd (own (borne (owed plan m (Kill l)) v (owner k) bear) k)
        | inr c ↦ absurd (not_closed (slot m o i).opened here.opened c)
      ]

  split_open : (l : ℕ) → CanRepartition plan m l → IsOpen (meet l (split (line plan l).op (line plan l).window (count_or 0 (line plan l).act) m)) o i w u b
  unfolding meet split
  split_open l can =
      let q : Oper = record { boundary = (line plan l).window; parts = replicate (count_or 0 (line plan l).act) (fresh (line plan l).window) } in
      let other : o ≡ (line plan l).op → ⊥ = λ e. not_closed (slot m o i).opened here.opened
      (subst (λ (p : ℕ). (slot m p i).opened ≡ None) (sym e) (can.rests i (subst (λ (p : ℕ). i < parts m p) e here.part.1)).1) in
      let same : oper (meet l (split (line plan l).op (line plan l).window (count_or 0 (line plan l).act) m)) o ≡ oper m o = get_or-set_other m.ops (line plan l).op o q no_oper other in
      record {
        part = (
          let a = length-set m.ops (line plan l).op q in let c = here.part.0 in omega arith,
          (let a = ap (λ (p : Oper). length p.parts) same in let c = here.part.1 in omega arith),
        );
        opened = ap (λ (p : Oper). (get_or p.parts i (fresh 0)).opened) same ∙ here.opened;
        boundary = ap (λ (p : Oper). p.boundary) same ∙ here.boundary;
      }

  pub event_open : (v : ℕ) (e : Event) → Enabled plan m e → bears (owed plan m e) v ≡ true → (v ≡ u → closes plan o i e ≡ true → ⊥) → IsOpen (next plan m v e) o i w u b
  unfolding map_slots meet
  event_open v (Start p j x) h bear own = start_open p j x v h
  event_open v (Write x) h bear own = record { part = here.part; opened = here.opened; boundary = here.boundary }
  event_open v (Finish p j x) h bear own = put_open p j (finished x (slot m p j)) h.part (λ e f.
      absurd (own (borne (owed plan m (Finish p j x)) v
      (ap (λ (k : ℕ). open_worker (slot m k j).opened) e ∙ ap (λ (k : ℕ). open_worker (slot m o k).opened) f ∙ some_worker (slot m o i).opened here.opened) bear)
      (all_true (equal_by p o e) (equal_by j i f))))
  event_open v (Save p j x) h bear own = same_open p j (saves x (slot m p j)) h.part refl
  event_open v (Advance p j x) h bear own = same_open p j (advanced x (slot m p j)) h.part refl
  event_open v (Commit x) h bear own =
      let f = map_open (λ o i. trimmed x) here.opened in
      record { part = f.part; opened = f.opened; boundary = f.boundary }
  event_open v (Purge p j x) h bear own = same_open p j (purged x (slot m p j)) h.part refl
  event_open v (Kill l) h bear own =
      let f = map_open (back_in plan l) (kill_open l v h bear own) in
      record { part = f.part; opened = f.opened; boundary = f.boundary }
  event_open v (Repartition l) h bear own = split_open l h
  event_open v End h bear own = record { part = here.part; opened = here.opened; boundary = here.boundary }
  event_open v (Fault s) h bear own = record { part = here.part; opened = here.opened; boundary = here.boundary }

pub stays-open : StaysOpen
stays-open plan m [] h o i w u b here none = here
stays-open plan m (e ∷ es) h o i w u b here none =
    let p = fits_parts plan m e es h in
    let n = parted (e.worker == u) (closes plan o i e.event) (closes_one plan u o i es) none in
    stays-open plan (next plan m e.worker e.event) es p.2 o i w u b
    (event_open plan m o i w u b here e.worker e.event (can_facts plan m e.event p.0) p.1 (λ f g. n.0 (equal_by e.worker u f) g)) n.1
  where
    parted : (s t r : Bool) → cond (s && t) true r ≡ false → (s ≡ true → t ≡ true → ⊥) × (r ≡ false)
    parted true true r h = cc
    parted true false r h = (λ a b. cc, h)
    parted false t r h = (λ a b. cc, h)
