-- What a worker has open, over each event and over a journal.
use Rattle.std.proofs.Common.{◌≡◌, ℕ, ◌<◌, ◌≤◌, ◌⊎◌, inl, inr, Bool, true, false, cond, ◌&&◌, ◌||◌, ◌==◌, nat_lt, List, [], ◌∷◌, length, get_or, set, replicate, Option, None, Some, refl, sym, ap, subst, ◌∙◌, arith}
use Rattle.std.proofs.Math.ListN.{length-set, get_or-map}
use Rattle.std.proofs.lemmas.List.{get_or_past, get_or-set_same, get_or-set_other}
use Rattle.std.proofs.lemmas.Bool.Decides.{nat_tests}
use Rattle.apx_history.specs.declared.Entry.{Entry}
use Rattle.apx_history.specs.declared.Event.{Event}
use Rattle.apx_history.specs.declared.Event.TheVariants.{Start, Write, Finish, Save, Advance, Commit, Purge, Kill, Repartition, End, Fault}
use Rattle.apx_history.specs.declared.Act.{Act}
use Rattle.apx_history.specs.declared.Act.TheVariants.{Fails, Splits}
use Rattle.apx_history.specs.Plan.{Plan, Operator, no_operator, operator, line, fails_part, kills, count_or}
use Rattle.apx_history.specs.State.{Slot, Oper, State, fresh, no_oper, oper, parts, slot, IsPart, open_worker, put, map_slots}
use Rattle.apx_history.specs.Enabled.{in_tree}
use Rattle.apx_history.specs.Effects.{started, finished, saves, advanced, purged, trimmed, back, back_in, meet, split, next}
use Rattle.apx_history.specs.Conditions.{Enabled, CanKill, CanRepartition}
use Rattle.apx_history.specs.Journals.{beginning, owed_act, owed, bears, is_legal, after}
use Rattle.apx_history.proofs.Tests.{both, test, alike}
use Rattle.apx_history.proofs.Slots.{slot_here, slot_other, slot_map, map_ops, map_parts}
use Rattle.apx_history.proofs.Conditions.{all_true, equal_at, equal_by}
use Rattle.apx_history.proofs.Renewed.{fresh_rests}
use Rattle.apx_history.proofs.Legal.{can_facts, fits_parts}
use Rattle.apx_work.specs.Own.{own, state_of, open_for, open_after, open_behind, OwnTells, OpenStays}

-- ---- tests

both_same : (b : Bool) (x : Option ℕ) → x ≡ cond b x x
both_same true x = refl
both_same false x = refl

-- what begins in a closed partition
begun : (t b : Bool) (w : ℕ) (x : Option ℕ) → (t ≡ true → x ≡ None) → cond t (cond b (Some w) None) x ≡ cond b (cond t (Some w) x) x
begun true true w x h = refl
begun true false w x h = sym (h refl)
begun false b w x h = both_same b x

-- what ends in a partition of which only its owner ends something
ended : (t b : Bool) (x : Option ℕ) → (t ≡ true → b ≡ false → x ≡ None) → cond t None x ≡ cond b (cond t None x) x
ended true true x h = refl
ended true false x h = sym (h refl refl)
ended false b x h = both_same b x

-- a number is below another, or not
below : (a b : ℕ) → (a < b) ⊎ (b ≤ a)
below a b = elim (test (nat_lt a b)) [ inl s ↦ inl (grind (arith, nat_tests)) | inr s ↦ inr (grind (arith, nat_tests)) ]

differ : {b : Bool} → b ≡ true → b ≡ false → ⊥
differ h g = let e : true ≡ false = sym h ∙ g in cc

-- nothing is open for another than who began it
not_ours : (u v : ℕ) (x : Option (ℕ × ℕ)) → bears (open_worker x) v ≡ true → v == u ≡ false → open_for u x ≡ None
not_ours u v None h other = refl
not_ours u v (Some x) h other =
    let e : x.1 ≡ v = equal_at x.1 v h in
    ap (λ (k : ℕ). cond {A = Option ℕ} (k == u) (Some x.0) None) e ∙ ap (λ (b : Bool). cond {A = Option ℕ} b (Some x.0) None) other

-- what is open for a worker
open_by : (u w : ℕ) (x : Option (ℕ × ℕ)) → open_for u x ≡ Some w → x ≡ Some (w, u)
open_by u w None h = absurd (cc h)
open_by u w (Some x) h = by (test (x.1 == u))
  where
    by : (x.1 == u ≡ true) ⊎ (x.1 == u ≡ false) → Some x ≡ Some (w, u)
    by (inl s) =
        let e : Some x.0 ≡ Some w = sym (ap (λ (b : Bool). cond {A = Option ℕ} b (Some x.0) None) s) ∙ h in
        let f : x.0 ≡ w = cc in
        let g : x.1 ≡ u = equal_at x.1 u s in
        ap (λ (p : ℕ × ℕ). Some p) (λ k. (f k, g k))
    by (inr s) = absurd (let e : None ≡ Some w = sym (ap (λ (b : Bool). cond {A = Option ℕ} b (Some x.0) None) s) ∙ h in cc)

-- ---- over an event

module _ (plan : Plan) (m : State) (u o i : ℕ) where
  -- what the worker has open
  abbrev mine : Option ℕ
  mine = open_for u (slot m o i).opened

  -- a partition that isn't there has nothing open
  past : (n : State) → (length n.ops ≤ o) ⊎ (parts n o ≤ i) → open_for u (slot n o i).opened ≡ None
  past n (inl h) = ap (λ (q : Oper). open_for u (get_or q.parts i (fresh 0)).opened) (get_or_past n.ops o no_oper h)
  past n (inr h) = ap (λ (x : Slot). open_for u x.opened) (get_or_past (oper n o).parts i (fresh 0) h)

  -- one partition changed
  put_for : (p j : ℕ) (x : Slot) → IsPart m p j → open_for u (slot (put m p j x) o i).opened ≡ cond (p == o && j == i) (open_for u x.opened) (open_for u (slot m o i).opened)
  put_for p j x here = by (test (p == o && j == i))
    where
      by : ((p == o && j == i) ≡ true) ⊎ ((p == o && j == i) ≡ false) → open_for u (slot (put m p j x) o i).opened ≡ cond (p == o && j == i) (open_for u x.opened) (open_for u (slot m o i).opened)
      by (inl s) =
          let e = both (p == o) (j == i) s in
          let f : o ≡ p = sym (equal_at p o e.0) in
          let g : i ≡ j = sym (equal_at j i e.1) in
          ap (λ (k : ℕ). open_for u (slot (put m p j x) k i).opened) f ∙ ap (λ (k : ℕ). open_for u (slot (put m p j x) p k).opened) g
          ∙ ap (λ (y : Slot). open_for u y.opened) (slot_here m p j x here) ∙ sym (ap (λ (b : Bool). cond b (open_for u x.opened) (open_for u (slot m o i).opened)) s)
      by (inr s) =
          let other : o ≡ p → i ≡ j → ⊥ = λ f g. differ (all_true (equal_by p o (sym f)) (equal_by j i (sym g))) s in
          ap (λ (y : Slot). open_for u y.opened) (slot_other m p j x here o i other) ∙ sym (ap (λ (b : Bool). cond b (open_for u x.opened) (open_for u (slot m o i).opened)) s)

  -- the partition that is named is this one
  named : (p j : ℕ) → (p == o && j == i) ≡ true → slot m p j ≡ slot m o i
  named p j s = let e = both (p == o) (j == i) s in ap (λ (k : ℕ). slot m k j) (equal_at p o e.0) ∙ ap (λ (k : ℕ). slot m o k) (equal_at j i e.1)

  -- a change that leaves open what is open
  same_for : (v p j : ℕ) (x : Slot) → IsPart m p j → x.opened ≡ (slot m p j).opened → open_for u (slot (put m p j x) o i).opened ≡ cond (v == u) (open_for u (slot m o i).opened) (open_for u (slot m o i).opened)
  same_for v p j x here same = put_for p j x here ∙ by (test (p == o && j == i)) ∙ both_same (v == u) (open_for u (slot m o i).opened)
    where
      by : ((p == o && j == i) ≡ true) ⊎ ((p == o && j == i) ≡ false) → cond (p == o && j == i) (open_for u x.opened) (open_for u (slot m o i).opened) ≡ open_for u (slot m o i).opened
      by (inl s) = ap (λ (b : Bool). cond b (open_for u x.opened) (open_for u (slot m o i).opened)) s ∙ ap (open_for u) same ∙ ap (λ (y : Slot). open_for u y.opened) (named p j s)
      by (inr s) = ap (λ (b : Bool). cond b (open_for u x.opened) (open_for u (slot m o i).opened)) s

  -- each partition changed
  map_for : (f : ℕ → ℕ → Slot → Slot) (x : Option ℕ) → (IsPart m o i → open_for u (f o i (slot m o i)).opened ≡ x) → ((length m.ops ≤ o) ⊎ (parts m o ≤ i) → None ≡ x)
      → open_for u (slot (map_slots f m) o i).opened ≡ x
  map_for f x each none = elim (below o (length m.ops)) [
    | inl h ↦ elim (below i (parts m o)) [
      | inl k ↦ ap (λ (y : Slot). open_for u y.opened) (slot_map f m o i (h, k)) ∙ each (h, k)
      | inr k ↦ past (map_slots f m) (inr (let a = map_parts f m o h in omega arith)) ∙ none (inr k)
    ]
    | inr h ↦ past (map_slots f m) (inl (let a = map_ops f m in omega arith)) ∙ none (inl h)
  ]

  -- who kills an open partition began it
  killer : (l v : ℕ) → bears (owed plan m (Kill l)) v ≡ true → kills o i (line plan l) ≡ true → v == u ≡ false → open_for u (slot m o i).opened ≡ None
  killer l v bear k other = not_ours u v (slot m o i).opened (subst (λ (x : Option ℕ). bears x v ≡ true) owner bear) other
    where
      killed : (a : Act) → fails_part i a ≡ true → owed_act m o a ≡ open_worker (slot m o i).opened
      killed (Fails point part) h = ap (λ (k : ℕ). open_worker (slot m o k).opened) (equal_at part i h)
      killed (Splits count) h = cc

      owner : owed plan m (Kill l) ≡ open_worker (slot m o i).opened
      owner =
          let h = both ((line plan l).op == o) (fails_part i (line plan l).act) k in
          ap (λ (p : ℕ). owed_act m p (line plan l).act) (equal_at (line plan l).op o h.0) ∙ killed (line plan l).act h.1

  -- a kill closes its partition, which only its owner kills, and the rest of its tree was closed
  kill_for : (l v : ℕ) → CanKill plan m l → bears (owed plan m (Kill l)) v ≡ true →
      open_for u (slot (map_slots (back_in plan l) m) o i).opened
      ≡ cond (v == u) (cond (kills o i (line plan l)) None (open_for u (slot m o i).opened)) (open_for u (slot m o i).opened)
  unfolding in_tree
  kill_for l v can bear = map_for (back_in plan l) _ (λ here. inside here (test (in_tree plan l o i)))
      (λ out. outside (v == u) (kills o i (line plan l)) (past m out))
    where
      outside : (b k : Bool) → open_for u (slot m o i).opened ≡ None → None ≡ cond b (cond k None (open_for u (slot m o i).opened)) (open_for u (slot m o i).opened)
      outside true true e = refl
      outside true false e = sym e
      outside false k e = sym e

      inside : IsPart m o i → (in_tree plan l o i ≡ true) ⊎ (in_tree plan l o i ≡ false) → open_for u (back_in plan l o i (slot m o i)).opened
          ≡ cond (v == u) (cond (kills o i (line plan l)) None (open_for u (slot m o i).opened)) (open_for u (slot m o i).opened)
      inside here (inl s) = ap (λ (b : Bool). open_for u (cond b (back (slot m o i)) (slot m o i)).opened) s ∙ elim (can.closed o i here s) [
        | inl k ↦ outside_killed (v == u) (kills o i (line plan l)) k (killer l v bear k)
        | inr c ↦ outside (v == u) (kills o i (line plan l)) (ap (open_for u) c)
      ]
        where
          outside_killed : (b k : Bool) → k ≡ true → (b ≡ false → open_for u (slot m o i).opened ≡ None) → None ≡ cond b (cond k None (open_for u (slot m o i).opened)) (open_for u (slot m o i).opened)
          outside_killed true true e h = refl
          outside_killed true false e h = absurd (cc e)
          outside_killed false k e h = sym (h refl)
      inside here (inr s) = ap (λ (b : Bool). open_for u (cond b (back (slot m o i)) (slot m o i)).opened) s
          ∙ spared (kills o i (line plan l)) (v == u) _ s
        where
          spared : (k b r : Bool) → (k || r) ≡ false → open_for u (slot m o i).opened ≡ cond b (cond k None (open_for u (slot m o i).opened)) (open_for u (slot m o i).opened)
          spared true b r e = absurd (cc e)
          spared false b r e = both_same b (open_for u (slot m o i).opened)

  -- the partitions of an operator that is repartitioned were closed, and those that it gets are
  split_for : (l v : ℕ) → CanRepartition plan m l →
      open_for u (slot (meet l (split (line plan l).op (line plan l).window (count_or 0 (line plan l).act) m)) o i).opened
      ≡ cond (v == u) (open_for u (slot m o i).opened) (open_for u (slot m o i).opened)
  unfolding meet split
  split_for l v can = by (alike o (line plan l).op) ∙ both_same (v == u) (open_for u (slot m o i).opened)
    where
      new : Oper
      new = record { boundary = (line plan l).window; parts = replicate (count_or 0 (line plan l).act) (fresh (line plan l).window) }

      was : o ≡ (line plan l).op → open_for u (slot m o i).opened ≡ None
      was e = elim (below i (parts m o)) [
        | inl h ↦ ap (open_for u) (subst (λ (p : ℕ). i < parts m p → (slot m p i).opened ≡ None) (sym e) (λ r. (can.rests i r).1) h)
        | inr h ↦ past m (inr h)
      ]

      is : (k : (o < length m.ops) ⊎ (length m.ops ≤ o)) → o ≡ (line plan l).op → open_for u (get_or (get_or (set m.ops (line plan l).op new) o no_oper).parts i (fresh 0)).opened ≡ None
      is (inl h) e =
          let same : get_or (set m.ops (line plan l).op new) o no_oper ≡ new = ap (λ (k : ℕ). get_or (set m.ops (line plan l).op new) k no_oper) e
          ∙ get_or-set_same m.ops (line plan l).op new no_oper (subst (λ (k : ℕ). k < length m.ops) e h) in
          ap (λ (q : Oper). open_for u (get_or q.parts i (fresh 0)).opened) same ∙ ap (open_for u) (fresh_rests (line plan l).window (count_or 0 (line plan l).act) i).closed
      is (inr h) e = ap (λ (q : Oper). open_for u (get_or q.parts i (fresh 0)).opened) (get_or_past (set m.ops (line plan l).op new) o no_oper (let a = length-set m.ops (line plan l).op new in omega arith))

      by : (o ≡ (line plan l).op) ⊎ (o ≡ (line plan l).op → ⊥)
          → open_for u (get_or (get_or (set m.ops (line plan l).op new) o no_oper).parts i (fresh 0)).opened ≡ open_for u (slot m o i).opened
      by (inl e) = is (below o (length m.ops)) e ∙ sym (was e)
      by (inr other) = ap (λ (q : Oper). open_for u (get_or q.parts i (fresh 0)).opened) (get_or-set_other m.ops (line plan l).op o new no_oper other)

  -- what the worker has open behind an event of worker v
  pub event_for : (v : ℕ) (e : Event) → Enabled plan m e → bears (owed plan m e) v ≡ true → open_for u (slot (next plan m v e) o i).opened
      ≡ cond (v == u) (open_after plan o i (open_for u (slot m o i).opened) e) (open_for u (slot m o i).opened)
  unfolding map_slots meet
  event_for v (Start p j w) h bear = put_for p j (started w v (slot m p j)) h.part
      ∙ begun (p == o && j == i) (v == u) w (open_for u (slot m o i).opened) (λ s. ap (λ (x : Slot). open_for u x.opened) (sym (named p j s)) ∙ ap (open_for u) h.closed)
  event_for v (Write w) h bear = both_same (v == u) (open_for u (slot m o i).opened)
  event_for v (Finish p j w) h bear = put_for p j (finished w (slot m p j)) h.part
      ∙ ended (p == o && j == i) (v == u) (open_for u (slot m o i).opened)
      (λ s other. not_ours u v (slot m o i).opened (subst (λ (x : Slot). bears (open_worker x.opened) v ≡ true) (named p j s) bear) other)
  event_for v (Save p j w) h bear = same_for v p j (saves w (slot m p j)) h.part refl
  event_for v (Advance p j w) h bear = same_for v p j (advanced w (slot m p j)) h.part refl
  event_for v (Commit w) h bear = map_for (λ o i. trimmed w) (open_for u (slot m o i).opened) (λ here. refl) (λ out. sym (past m out)) ∙ both_same (v == u) (open_for u (slot m o i).opened)
  event_for v (Purge p j w) h bear = same_for v p j (purged w (slot m p j)) h.part refl
  event_for v (Kill l) h bear = kill_for l v h bear
  event_for v (Repartition l) h bear = split_for l v h
  event_for v End h bear = both_same (v == u) (open_for u (slot m o i).opened)
  event_for v (Fault s) h bear = both_same (v == u) (open_for u (slot m o i).opened)

-- ---- over a journal

pub entries_for : (plan : Plan) (m : State) (es : List Entry) → is_legal plan m es ≡ true → (u o i : ℕ) →
    open_for u (slot (after plan m es) o i).opened ≡ open_behind plan o i (open_for u (slot m o i).opened) (own u es)
entries_for plan m [] h u o i = refl
entries_for plan m (e ∷ es) h u o i =
    let p = fits_parts plan m e es h in
    let x : Option ℕ = open_for u (slot m o i).opened in
    entries_for plan (next plan m e.worker e.event) es p.2 u o i
    ∙ ap (λ (y : Option ℕ). open_behind plan o i y (own u es)) (event_for plan m u o i e.worker e.event (can_facts plan m e.event p.0) p.1)
    ∙ by (e.worker == u) (open_for u (slot m o i).opened) (own u es)
  where
    by : (b : Bool) (x : Option ℕ) (fs : List Entry) → open_behind plan o i (cond b (open_after plan o i x e.event) x) fs ≡ open_behind plan o i x (cond b (e ∷ fs) fs)
    by true x fs = refl
    by false x fs = refl

-- before the first event all is closed
begins_closed : (plan : Plan) (s c u o i : ℕ) → open_for u (slot (beginning plan s c) o i).opened ≡ None
unfolding beginning
begins_closed plan s c u o i =
    let first : oper (beginning plan s c) o ≡ record { boundary = 0; parts = replicate (operator plan o).first (fresh c) } =
    get_or-map (λ (p : Operator). record { boundary = 0; parts = replicate p.first (fresh c) }) plan.operators o no_operator in
    ap (λ (q : Oper). open_for u (get_or q.parts i (fresh 0)).opened) first ∙ ap (open_for u) (fresh_rests c (operator plan o).first i).closed

pub own-tells : OwnTells
own-tells plan s c es is u o i =
    entries_for plan (beginning plan s c) es is.legal u o i ∙ ap (λ (x : Option ℕ). open_behind plan o i x (own u es)) (begins_closed plan s c u o i)

-- a partition with an open window is there
open_there : (m : State) (o i w u : ℕ) → open_for u (slot m o i).opened ≡ Some w → IsPart m o i
open_there m o i w u h = elim (below o (length m.ops)) [
  | inl k ↦ elim (below i (parts m o)) [
    | inl r ↦ (k, r)
    | inr r ↦ absurd (let e : None ≡ Some w = sym (past plan_none m u o i m (inr r)) ∙ h in cc)
  ]
  | inr k ↦ absurd (let e : None ≡ Some w = sym (past plan_none m u o i m (inl k)) ∙ h in cc)
]
  where
    plan_none : Plan
    plan_none = record { windows = 0; every = 0; sink = 0; operators = []; lines = [] }

pub open-stays : OpenStays
open-stays plan s c es is u o i w h =
    let e : open_for u (slot (state_of plan s c es) o i).opened ≡ Some w = own-tells plan s c es is u o i ∙ h in
    record {
      part = open_there (state_of plan s c es) o i w u e;
      opened = open_by u w (slot (state_of plan s c es) o i).opened e;
      boundary = refl;
    }
