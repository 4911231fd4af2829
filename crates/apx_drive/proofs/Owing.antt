-- A run by one worker: whatever is open, that worker began.
use Rattle.std.proofs.Common.{◌≡◌, ℕ, ◌<◌, ◌≤◌, ◌⊎◌, inl, inr, Bool, true, false, cond, nat_lt, length, get_or, set, replicate, Option, None, Some, refl, sym, ap, ◌∙◌, arith}
use Rattle.std.proofs.Math.ListN.{length-set, get_or-map}
use Rattle.std.proofs.lemmas.List.{get_or_past, get_or-set_same, get_or-set_other}
use Rattle.std.proofs.lemmas.Bool.Decides.{nat_tests}
use Rattle.apx_history.specs.declared.Event.{Event}
use Rattle.apx_history.specs.declared.Event.TheVariants.{Start, Write, Finish, Save, Advance, Commit, Purge, Kill, Repartition, End, Fault}
use Rattle.apx_history.specs.declared.Act.{Act}
use Rattle.apx_history.specs.declared.Act.TheVariants.{Fails, Splits}
use Rattle.apx_history.specs.Plan.{Plan, Operator, no_operator, operator, line, count_or}
use Rattle.apx_history.specs.State.{Slot, Oper, State, fresh, no_oper, oper, parts, slot, IsPart, open_worker, put, map_slots}
use Rattle.apx_history.specs.Enabled.{in_tree}
use Rattle.apx_history.specs.Effects.{started, finished, saves, advanced, purged, trimmed, back, back_in, meet, split, next}
use Rattle.apx_history.specs.Conditions.{Enabled}
use Rattle.apx_history.specs.Journals.{beginning, owed_act, owed, bears}
use Rattle.apx_history.proofs.Tests.{test, alike}
use Rattle.apx_history.proofs.Slots.{put_slot, slot_map, map_ops, map_parts}
use Rattle.apx_history.proofs.Conditions.{equal_by}
use Rattle.apx_history.proofs.Renewed.{fresh_rests}

-- whatever is open, the worker began
abbrev pub OpenBy : ℕ → State → Type 0
OpenBy u m = (o i w v : ℕ) → (slot m o i).opened ≡ Some (w, v) → v ≡ u

-- a closed partition has nothing open
closed : (x : Option (ℕ × ℕ)) (w v u : ℕ) → x ≡ None → x ≡ Some (w, v) → v ≡ u
closed None w v u none some = absurd (cc some)
closed (Some x) w v u none some = absurd (cc none)

-- a number is below another, or not
below : (a b : ℕ) → (a < b) ⊎ (b ≤ a)
below a b = elim (test (nat_lt a b)) [ inl s ↦ inl (grind (arith, nat_tests)) | inr s ↦ inr (grind (arith, nat_tests)) ]

-- ---- before the first event

pub begins_closed : (plan : Plan) (s c u : ℕ) → OpenBy u (beginning plan s c)
unfolding beginning
begins_closed plan s c u o i w v is =
    let begun : oper (beginning plan s c) o ≡ record { boundary = 0; parts = replicate (operator plan o).first (fresh c) } =
    get_or-map (λ (p : Operator). record { boundary = 0; parts = replicate p.first (fresh c) }) plan.operators o no_operator in
    let none : (slot (beginning plan s c) o i).opened ≡ None =
    ap (λ (q : Oper). (get_or q.parts i (fresh 0)).opened) begun ∙ (fresh_rests c (operator plan o).first i).closed in
    closed (slot (beginning plan s c) o i).opened w v u none is

-- ---- behind an event

module _ (m : State) (u : ℕ) (all : OpenBy u m) where
  -- one partition changed
  put_by : (p j : ℕ) (x : Slot) → IsPart m p j → ((w v : ℕ) → x.opened ≡ Some (w, v) → v ≡ u) → OpenBy u (put m p j x)
  put_by p j x here new o i = put_slot m p j x here (λ q k y. (w v : ℕ) → y.opened ≡ Some (w, v) → v ≡ u) new o i (λ other. all o i)

  same_by : (p j : ℕ) (x : Slot) → IsPart m p j → x.opened ≡ (slot m p j).opened → OpenBy u (put m p j x)
  same_by p j x here same = put_by p j x here (λ w v is. all p j w v (sym same ∙ is))

  -- each partition changed, none of them opened
  map_by : (f : ℕ → ℕ → Slot → Slot) → ((o i w v : ℕ) → (f o i (slot m o i)).opened ≡ Some (w, v) → v ≡ u) → OpenBy u (map_slots f m)
  map_by f each o i w v is = elim (below o (length m.ops)) [
    | inl h ↦ elim (below i (parts m o)) [
      | inl k ↦ each o i w v (ap (λ (x : Slot). x.opened) (sym (slot_map f m o i (h, k))) ∙ is)
      | inr k ↦
          let few : slot (map_slots f m) o i ≡ fresh 0 = get_or_past (oper (map_slots f m) o).parts i (fresh 0) (let a = map_parts f m o h in omega arith) in
          closed (slot (map_slots f m) o i).opened w v u (ap (λ (x : Slot). x.opened) few) is
    ]
    | inr h ↦
        let none : oper (map_slots f m) o ≡ no_oper = get_or_past (map_slots f m).ops o no_oper (let a = map_ops f m in omega arith) in
        closed (slot (map_slots f m) o i).opened w v u (ap (λ (q : Oper). (get_or q.parts i (fresh 0)).opened) none) is
  ]

  -- a partition at its recovery checkpoint has nothing open
  back_by : (plan : Plan) (l o i w v : ℕ) → (back_in plan l o i (slot m o i)).opened ≡ Some (w, v) → v ≡ u
  back_by plan l o i w v is = by (in_tree plan l o i) is
    where
      by : (b : Bool) → (cond b (back (slot m o i)) (slot m o i)).opened ≡ Some (w, v) → v ≡ u
      by true h = absurd (cc h)
      by false h = all o i w v h

  split_by : (l p b n : ℕ) → OpenBy u (meet l (split p b n m))
  unfolding meet split
  split_by l p b n o i w v is = elim (alike o p) [
    | inl e ↦ anew e (below p (length m.ops))
    | inr other ↦ all o i w v (ap (λ (q : Oper). (get_or q.parts i (fresh 0)).opened) (sym (get_or-set_other m.ops p o new no_oper other)) ∙ is)
  ]
    where
      new : Oper
      new = record { boundary = b; parts = replicate n (fresh b) }

      anew : o ≡ p → (p < length m.ops) ⊎ (length m.ops ≤ p) → v ≡ u
      anew e (inl h) =
          let same : oper (meet l (split p b n m)) o ≡ new = ap (λ (k : ℕ). oper (meet l (split p b n m)) k) e ∙ get_or-set_same m.ops p new no_oper h in
          closed (slot (meet l (split p b n m)) o i).opened w v u
          (ap (λ (q : Oper). (get_or q.parts i (fresh 0)).opened) same ∙ (fresh_rests b n i).closed) is
      anew e (inr h) = closed (slot (meet l (split p b n m)) o i).opened w v u (ap (λ (q : Oper). (get_or q.parts i (fresh 0)).opened) (gone e h)) is
        where
          gone : o ≡ p → length m.ops ≤ p → oper (meet l (split p b n m)) o ≡ no_oper
          gone e h = get_or_past (set m.ops p new) o no_oper (let a = length-set m.ops p new in omega arith)

  -- after each event of the worker
  pub event_by : (plan : Plan) (e : Event) → Enabled plan m e → OpenBy u (next plan m u e)
  unfolding map_slots meet
  event_by plan (Start p j w) h = put_by p j (started w u (slot m p j)) h.part (λ x v is. ap (λ (y : Option (ℕ × ℕ)). worker_or v y) (sym is))
    where
      worker_or : ℕ → Option (ℕ × ℕ) → ℕ
      worker_or v None = v
      worker_or v (Some x) = x.1
  event_by plan (Write w) h = all
  event_by plan (Finish p j w) h = put_by p j (finished w (slot m p j)) h.part (λ x v is. absurd (cc is))
  event_by plan (Save p j w) h = same_by p j (saves w (slot m p j)) h.part refl
  event_by plan (Advance p j w) h = same_by p j (advanced w (slot m p j)) h.part refl
  event_by plan (Commit w) h = map_by (λ o i. trimmed w) all
  event_by plan (Purge p j w) h = same_by p j (purged w (slot m p j)) h.part refl
  event_by plan (Kill l) h = map_by (back_in plan l) (back_by plan l)
  event_by plan (Repartition l) h = split_by l (line plan l).op (line plan l).window (count_or 0 (line plan l).act)
  event_by plan End h = all
  event_by plan (Fault s) h = all

  -- ---- the worker may do each event

  borne : (x : Option (ℕ × ℕ)) → ((w v : ℕ) → x ≡ Some (w, v) → v ≡ u) → bears (open_worker x) u ≡ true
  borne None h = refl
  borne (Some x) h = equal_by x.1 u (h x.0 x.1 refl)

  act_borne : (o : ℕ) (a : Act) → bears (owed_act m o a) u ≡ true
  act_borne o (Fails point part) = borne (slot m o part).opened (all o part)
  act_borne o (Splits count) = refl

  pub bears_all : (plan : Plan) (e : Event) → bears (owed plan m e) u ≡ true
  bears_all plan (Start o i w) = refl
  bears_all plan (Write w) = borne (slot m plan.sink 0).opened (all plan.sink 0)
  bears_all plan (Finish o i w) = borne (slot m o i).opened (all o i)
  bears_all plan (Save o i w) = refl
  bears_all plan (Advance o i w) = refl
  bears_all plan (Commit w) = refl
  bears_all plan (Purge o i w) = refl
  bears_all plan (Kill l) = act_borne (line plan l).op (line plan l).act
  bears_all plan (Repartition l) = refl
  bears_all plan End = refl
  bears_all plan (Fault s) = refl
