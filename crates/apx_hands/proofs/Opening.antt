-- What is open behind an event, and what is closed.
use Rattle.std.proofs.Common.{◌≡◌, ℕ, ◌<◌, ◌≤◌, ◌⊎◌, inl, inr, Bool, true, false, cond, ◌||◌, ◌==◌, nat_lt, length, get_or, set, replicate, Option, None, Some, refl, sym, ap, subst, ◌∙◌, arith}
use Rattle.std.proofs.Math.ListN.{length-set}
use Rattle.std.proofs.lemmas.List.{get_or_past, get_or-set_same, get_or-set_other}
use Rattle.std.proofs.lemmas.Bool.Decides.{nat_tests}
use Rattle.apx_history.specs.declared.Event.{Event}
use Rattle.apx_history.specs.declared.Event.TheVariants.{Start, Write, Finish, Save, Advance, Commit, Purge, Kill, Repartition, End, Fault}
use Rattle.apx_history.specs.Plan.{Plan, line, below, kills, count_or}
use Rattle.apx_history.specs.State.{Slot, Oper, State, fresh, no_oper, oper, parts, slot, IsPart, put, map_slots}
use Rattle.apx_history.specs.Enabled.{in_tree}
use Rattle.apx_history.specs.Effects.{started, finished, saves, advanced, purged, trimmed, back, back_in, meet, split, next}
use Rattle.apx_history.specs.Conditions.{Enabled}
use Rattle.apx_history.specs.Laws.{closes}
use Rattle.apx_history.proofs.Tests.{both, test, alike}
use Rattle.apx_history.proofs.Slots.{put_slot, slot_here, slot_map, map_ops, map_parts}
use Rattle.apx_history.proofs.Conditions.{equal_at}
use Rattle.apx_history.proofs.Legal.{can_facts}
use Rattle.apx_history.proofs.Renewed.{fresh_rests}
use Rattle.apx_hands.specs.Opened.{OpensByStart, Closes}

-- a closed partition has no window open
shut : (x : Option (ℕ × ℕ)) (w u : ℕ) → x ≡ None → x ≡ Some (w, u) → ⊥
shut x w u none some = let e : None ≡ Some (w, u) = sym none ∙ some in cc

-- a number is below another, or not
below_or : (a b : ℕ) → (a < b) ⊎ (b ≤ a)
below_or a b = elim (test (nat_lt a b)) [ inl s ↦ inl (grind (arith, nat_tests)) | inr s ↦ inr (grind (arith, nat_tests)) ]

-- the window and the worker of an open window
window_or : ℕ → Option (ℕ × ℕ) → ℕ
window_or v None = v
window_or v (Some x) = x.0

worker_or : ℕ → Option (ℕ × ℕ) → ℕ
worker_or v None = v
worker_or v (Some x) = x.1

-- ---- how the partitions of a changed state are read

-- each partition changed: what holds of what each became, and of one that isn't there, holds of each
pub map_slot : (f : ℕ → ℕ → Slot → Slot) (m : State) (P : Slot → Type 0) (o i : ℕ) → P (f o i (slot m o i)) → P (fresh 0) → P (slot (map_slots f m) o i)
map_slot f m P o i new none = elim (below_or o (length m.ops)) [
  | inl h ↦ elim (below_or i (parts m o)) [
    | inl k ↦ subst P (sym (slot_map f m o i (h, k))) new
    | inr k ↦ subst P (sym (get_or_past (oper (map_slots f m) o).parts i (fresh 0) (let a = map_parts f m o h in omega arith))) none
  ]
  | inr h ↦
      let gone : oper (map_slots f m) o ≡ no_oper = get_or_past (map_slots f m).ops o no_oper (let a = map_ops f m in omega arith) in
      subst (λ (q : Oper). P (get_or q.parts i (fresh 0))) (sym gone) none
]

-- an operator split: what holds of each closed partition, and of each other as it was, holds of each
pub split_slot : (l p b n : ℕ) (m : State) (P : Slot → Type 0) (o i : ℕ) → ((x : Slot) → x.opened ≡ None → P x) → P (slot m o i) → P (slot (meet l (split p b n m)) o i)
unfolding meet split
split_slot l p b n m P o i rests old = elim (alike o p) [
  | inl e ↦ anew e (below_or p (length m.ops))
  | inr other ↦ subst (λ (q : Oper). P (get_or q.parts i (fresh 0))) (sym (get_or-set_other m.ops p o new no_oper other)) old
]
  where
    new : Oper
    new = record { boundary = b; parts = replicate n (fresh b) }

    anew : o ≡ p → (p < length m.ops) ⊎ (length m.ops ≤ p) → P (slot (meet l (split p b n m)) o i)
    anew e (inl h) =
        let same : oper (meet l (split p b n m)) o ≡ new = ap (λ (k : ℕ). oper (meet l (split p b n m)) k) e ∙ get_or-set_same m.ops p new no_oper h in
        subst (λ (q : Oper). P (get_or q.parts i (fresh 0))) (sym same) (rests (get_or (replicate n (fresh b)) i (fresh 0)) (fresh_rests b n i).closed)
    anew e (inr h) =
        let gone : oper (meet l (split p b n m)) o ≡ no_oper = get_or_past (set m.ops p new) o no_oper (let a = length-set m.ops p new in omega arith) in
        subst (λ (q : Oper). P (get_or q.parts i (fresh 0))) (sym gone) (rests (fresh 0) refl)

-- ---- what is open

module _ (plan : Plan) (m : State) (worker : ℕ) where
  -- what is open of a partition was so before the event, or is its Start
  abbrev Came : Event → ℕ → ℕ → Slot → Type 0
  Came e o i x = (w u : ℕ) → x.opened ≡ Some (w, u) → ((slot m o i).opened ≡ Some (w, u)) ⊎ ((e ≡ Start o i w) × (u ≡ worker))

  same : (e : Event) (o i : ℕ) (x : Slot) → x.opened ≡ (slot m o i).opened → Came e o i x
  same e o i x is w u open' = inl (sym is ∙ open')

  none : (e : Event) (o i : ℕ) (x : Slot) → x.opened ≡ None → Came e o i x
  none e o i x is w u open' = absurd (shut x.opened w u is open')

  put_came : (e : Event) (p j : ℕ) (x : Slot) → IsPart m p j → Came e p j x → (o i : ℕ) → Came e o i (slot (put m p j x) o i)
  put_came e p j x here new o i = put_slot m p j x here (λ q k y. Came e q k y) new o i (λ other. same e o i (slot m o i) refl)

  back_came : (e : Event) (l o i : ℕ) → Came e o i (back_in plan l o i (slot m o i))
  back_came e l o i = by (in_tree plan l o i)
    where
      by : (b : Bool) → Came e o i (cond b (back (slot m o i)) (slot m o i))
      by true = none e o i (back (slot m o i)) refl
      by false = same e o i (slot m o i) refl

  pub came : (e : Event) → Enabled plan m e → (o i : ℕ) → Came e o i (slot (next plan m worker e) o i)
  unfolding meet window_or worker_or
  came (Start p j v) h o i = put_came (Start p j v) p j (started v worker (slot m p j)) h.part
      (λ w u is. inr (ap (Start p j) (ap (window_or v) is), ap (worker_or u) (sym is))) o i
  came (Write v) h o i = same (Write v) o i (slot m o i) refl
  came (Finish p j v) h o i = put_came (Finish p j v) p j (finished v (slot m p j)) h.part (none (Finish p j v) p j (finished v (slot m p j)) refl) o i
  came (Save p j v) h o i = put_came (Save p j v) p j (saves v (slot m p j)) h.part (same (Save p j v) p j (saves v (slot m p j)) refl) o i
  came (Advance p j v) h o i = put_came (Advance p j v) p j (advanced v (slot m p j)) h.part (same (Advance p j v) p j (advanced v (slot m p j)) refl) o i
  came (Commit v) h o i = map_slot (λ o i. trimmed v) m (λ x. Came (Commit v) o i x) o i (same (Commit v) o i (trimmed v (slot m o i)) refl) (none (Commit v) o i (fresh 0) refl)
  came (Purge p j v) h o i = put_came (Purge p j v) p j (purged v (slot m p j)) h.part (same (Purge p j v) p j (purged v (slot m p j)) refl) o i
  came (Kill l) h o i = map_slot (back_in plan l) m (λ x. Came (Kill l) o i x) o i (back_came (Kill l) l o i) (none (Kill l) o i (fresh 0) refl)
  came (Repartition l) h o i = split_slot l (line plan l).op (line plan l).window (count_or 0 (line plan l).act) m (λ x. Came (Repartition l) o i x) o i
      (λ x rests. none (Repartition l) o i x rests) (same (Repartition l) o i (slot m o i) refl)
  came End h o i = same End o i (slot m o i) refl
  came (Fault s) h o i = same (Fault s) o i (slot m o i) refl

  -- ---- what is closed

  killed_part : (l o i : ℕ) → kills o i (line plan l) ≡ true → in_tree plan l o i ≡ true
  unfolding in_tree
  killed_part l o i h = ap (λ (b : Bool). b || below plan (line plan l).op o) h

  pub shuts : (e : Event) → Enabled plan m e → (o i : ℕ) → closes plan o i e ≡ true → (slot (next plan m worker e) o i).opened ≡ None
  unfolding meet
  shuts (Finish p j v) h o i is =
      let b = both (p == o) (j == i) is in
      let e : p ≡ o = equal_at p o b.0 in
      let f : j ≡ i = equal_at j i b.1 in
      subst (λ (k : ℕ). (slot (put m p j (finished v (slot m p j))) k i).opened ≡ None) e
      (subst (λ (k : ℕ). (slot (put m p j (finished v (slot m p j))) p k).opened ≡ None) f
      (ap (λ (x : Slot). x.opened) (slot_here m p j (finished v (slot m p j)) h.part)))
  shuts (Kill l) h o i is = map_slot (back_in plan l) m (λ (x : Slot). x.opened ≡ None) o i
      (ap (λ (b : Bool). (cond b (back (slot m o i)) (slot m o i)).opened) (killed_part l o i is)) refl
  shuts (Start p j v) h o i is = cc
  shuts (Write v) h o i is = cc
  shuts (Save p j v) h o i is = cc
  shuts (Advance p j v) h o i is = cc
  shuts (Commit v) h o i is = cc
  shuts (Purge p j v) h o i is = cc
  shuts (Repartition l) h o i is = cc
  shuts End h o i is = cc
  shuts (Fault s) h o i is = cc

pub opens-by-start : OpensByStart
opens-by-start plan m worker e h o i w u is = came plan m worker e (can_facts plan m e h) o i w u is

pub closes-it : Closes
closes-it plan m worker e h o i is = shuts plan m worker e (can_facts plan m e h) o i is
