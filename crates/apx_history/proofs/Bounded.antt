-- No history is longer than the bound: each event raises a weight that is at most the bound.
use Rattle.std.proofs.Common.{◌≡◌, ℕ, zero, suc, ◌+◌, ◌*◌, ◌-◌, ◌<◌, ◌≤◌, ◌⊎◌, inl, inr, Bool, true, false, cond, not, ◌&&◌, ◌||◌, ◌==◌, nat_le, List, [], ◌∷◌, ◌++◌, length, get_or, set, refl, sym, ap, subst, ◌∙◌, arith, Option, None, Some, is_none}
use Rattle.std.proofs.Math.Nat.{suc-mul, add-mul, mul-add, mul-one, one-mul, mul-le-mul_right}
use Rattle.std.proofs.lemmas.Bool.{le-leb}
use Rattle.std.specs.List.{filter}
use Rattle.apx_history.specs.declared.Entry.{Entry}
use Rattle.apx_history.specs.declared.Event.{Event}
use Rattle.apx_history.specs.declared.Event.TheVariants.{Start, Write, Finish, Save, Advance, Commit, Purge, Kill, Repartition, End, Fault}
use Rattle.apx_history.specs.Plan.{Plan, has, operator, is_checkpoint, most}
use Rattle.apx_history.specs.State.{Slot, State, oper, parts, slot, IsPart, is_left, open_window, running, put, map_slots}
use Rattle.apx_history.specs.Enabled.{can, limit, least_rc}
use Rattle.apx_history.specs.Effects.{started, finished, saves, advanced, purged, trimmed, meet, split, next}
use Rattle.apx_history.specs.Conditions.{Enabled, CanStart, CanFinish, CanSave, CanCommit}
use Rattle.apx_history.specs.Journals.{beginning, is_legal, after}
use Rattle.apx_history.specs.Kept.{IsPlan, Sound, Kept}
use Rattle.apx_history.specs.Laws.{IsHistory, sum_below, most_parts, bound, IsBounded}
use Rattle.apx_history.proofs.Tests.{both, alike, has-append, has-filter, or_right, least-le}
use Rattle.apx_history.proofs.Slots.{put_ops, put_parts, part_is, slot_here, slot_other, map_ops, map_parts, slot_map}
use Rattle.apx_history.proofs.Conditions.{all_true, equal_by, none_by, due_at}
use Rattle.apx_history.proofs.Lines.{limit-start, number-most}
use Rattle.apx_history.proofs.Progress.{sink_slot}
use Rattle.apx_history.proofs.Legal.{can_facts, can_runs, fits_parts, events-keep, kept_start}

-- ---- sums

sum-le : (n : ℕ) (f g : ℕ → ℕ) → ((k : ℕ) → k < n → f k ≤ g k) → sum_below n f ≤ sum_below n g
unfolding sum_below
sum-le zero f g h = omega arith
sum-le (suc n) f g h = let a = h n (omega arith) in let b = sum-le n f g (λ k r. h k (omega arith)) in omega arith

sum-same : (n : ℕ) (f g : ℕ → ℕ) → ((k : ℕ) → k < n → f k ≡ g k) → sum_below n f ≡ sum_below n g
unfolding sum_below
sum-same zero f g h = refl
sum-same (suc n) f g h = let a = h n (omega arith) in let b = sum-same n f g (λ k r. h k (omega arith)) in omega arith

-- sums that differ at one number alone
sum-one : (n k : ℕ) (f g : ℕ → ℕ) → k < n → ((j : ℕ) → j < n → (j ≡ k → ⊥) → f j ≡ g j) → sum_below n f + g k ≡ sum_below n g + f k
unfolding sum_below
sum-one zero k f g r h = absurd (omega arith)
sum-one (suc n) k f g r h = elim (alike k n) [
  | inl e ↦
      (let a = sum-same n f g (λ j s. h j (omega arith) (λ d. omega arith)) in
      let b = ap f e in
      let c = ap g e in
      omega arith)
  | inr ne ↦
      (let a = sum-one n k f g (omega arith) (λ j s d. h j (omega arith) d) in
      let b = h n (omega arith) (λ d. ne (sym d)) in
      omega arith)
]

sum-const : (n c : ℕ) → sum_below n (λ k. c) ≡ n * c
unfolding sum_below
sum-const zero c = omega arith
sum-const (suc n) c = let a = sum-const n c in let b = suc-mul n c in omega arith

sum-scale : (n c : ℕ) (f : ℕ → ℕ) → sum_below n (λ k. f k * c) ≡ sum_below n f * c
unfolding sum_below
sum-scale zero c f = omega arith
sum-scale (suc n) c f = let a = sum-scale n c f in let b = add-mul (f n) (sum_below n f) c in omega arith

-- ---- weights

-- what is unsaved of a partition, as a number
lacks : Plan → Slot → ℕ
lacks plan x = cond {A = ℕ} (is_checkpoint plan x.at && not (has x.saved x.at)) 1 0

slot_weight : Plan → Slot → ℕ
slot_weight plan x = 2 * x.at + cond {A = ℕ} (is_none x.opened) 0 1 + (x.at - lacks plan x) + x.rc + x.floor

slots_weight : Plan → State → ℕ
slots_weight plan m = sum_below (length m.ops) (λ o. sum_below (parts m o) (λ i. slot_weight plan (slot m o i)))

-- the most that all partitions weigh
top : Plan → ℕ
top plan = most_parts plan * (5 * plan.windows)

met_weight : ℕ → List Bool → ℕ
met_weight c [] = 0
met_weight c (b ∷ bs) = cond {A = ℕ} b 0 c + met_weight c bs

pub weight : Plan → State → ℕ
weight plan m = slots_weight plan m + met_weight (top plan + 1) m.left + m.stored + m.committed + cond {A = ℕ} (running m) 0 1

one_least : (b : Bool) → cond {A = ℕ} b 1 0 ≤ 1
one_least true = omega arith
one_least false = omega arith

open_least : (b : Bool) → cond {A = ℕ} b 0 1 ≤ 1
open_least true = omega arith
open_least false = omega arith

closed_none : (x : Option (ℕ × ℕ)) → x ≡ None → cond {A = ℕ} (is_none x) 0 1 ≡ 0
closed_none x e = ap (λ (b : Bool). cond {A = ℕ} b 0 1) (none_by x e)

opened_one : {w : ℕ} (x : Option (ℕ × ℕ)) → open_window x ≡ Some w → cond {A = ℕ} (is_none x) 0 1 ≡ 1
opened_one None h = cc
opened_one (Some o) h = refl

met-set : (c : ℕ) (bs : List Bool) (l : ℕ) → get_or bs l false ≡ true → met_weight c (set bs l false) ≡ met_weight c bs + c
unfolding met_weight
met-set c [] l h = cc
met-set c (b ∷ bs) zero h = by b h
  where
    by : (b : Bool) → b ≡ true → c + met_weight c bs ≡ cond {A = ℕ} b 0 c + met_weight c bs + c
    by true h = omega arith
    by false h = cc
met-set c (b ∷ bs) (suc l) h = let a = met-set c bs l h in omega arith

met-least : (c : ℕ) (bs : List Bool) → met_weight c bs ≤ length bs * c
unfolding met_weight
met-least c [] = omega arith
met-least c (b ∷ bs) = let a = met-least c bs in let d = suc-mul (length bs) c in let e = some_of b in omega arith
  where
    some_of : (b : Bool) → cond {A = ℕ} b 0 c ≤ c
    some_of true = omega arith
    some_of false = omega arith

module _ (plan : Plan) (is : IsPlan plan) (m : State) (kept : Kept plan m) where
  slot_least : (o i : ℕ) → IsPart m o i → slot_weight plan (slot m o i) ≤ 5 * plan.windows
  unfolding slot_weight lacks
  slot_least o i r =
      let s = kept.each o i r in
      let a = s.rc in
      let b = s.at in
      let c = s.floor in
      let d = limit-start o plan.lines m.left plan.windows in
      by (slot m o i).opened (λ w h. (let e = s.opened w h in let f = e.0 in let g = e.1 in omega arith))
    where
      by : (x : Option (ℕ × ℕ)) → ((w : ℕ) → open_window x ≡ Some w → (slot m o i).at + 1 ≤ plan.windows) →
          2 * (slot m o i).at + cond {A = ℕ} (is_none x) 0 1 + ((slot m o i).at - cond {A = ℕ} (is_checkpoint plan (slot m o i).at && not (has (slot m o i).saved (slot m o i).at)) 1 0) + (slot m o i).rc + (slot m o i).floor ≤ 5 * plan.windows
      by None h = let s = kept.each o i r in let a = s.rc in let b = s.at in let c = s.floor in let d = limit-start o plan.lines m.left plan.windows in omega arith
      by (Some w) h = let e = h w.0 refl in let s = kept.each o i r in let a = s.rc in let b = s.at in let c = s.floor in omega arith

  slots_least : slots_weight plan m ≤ top plan
  unfolding slots_weight top
  slots_least =
      let c : ℕ = 5 * plan.windows in
      let a : sum_below (length m.ops) (λ o. sum_below (parts m o) (λ i. slot_weight plan (slot m o i))) ≤ sum_below (length m.ops) (λ o. most plan o * (5 * plan.windows)) =
      sum-le (length m.ops) _ _ (λ o r. (
      let d = sum-le (parts m o) (λ i. slot_weight plan (slot m o i)) (λ i. 5 * plan.windows) (λ i s. slot_least o i (r, s)) in
      let e = sum-const (parts m o) (5 * plan.windows) in
      let f = number-most o plan.lines (oper m o).boundary (operator plan o).first in
      let n = kept.number o r in
      let g : parts m o * (5 * plan.windows) ≤ most plan o * (5 * plan.windows) = mul-le-mul_right (5 * plan.windows) (omega arith) in
      omega arith)) in
      let b = sum-scale (length m.ops) (5 * plan.windows) (most plan) in
      let e : sum_below (length m.ops) (most plan) * (5 * plan.windows) ≡ most_parts plan * (5 * plan.windows) = ap (λ (n : ℕ). sum_below n (most plan) * (5 * plan.windows)) kept.ops in
      omega arith

  committed_least : m.committed ≤ plan.windows
  committed_least =
      let s = kept.each plan.sink 0 (sink_slot plan is m kept) in
      let a = s.committed in
      let b = s.rc in
      let c = s.at in
      let d = limit-start plan.sink plan.lines m.left plan.windows in
      omega arith

  weight_least : weight plan m ≤ bound plan
  unfolding weight bound top
  weight_least =
      let a = slots_least in
      let b = met-least (most_parts plan * (5 * plan.windows) + 1) m.left in
      let c = kept.stored in
      let d = committed_least in
      let e = open_least (running m) in
      let f : length m.left * (most_parts plan * (5 * plan.windows) + 1) ≡ length plan.lines * (most_parts plan * (5 * plan.windows)) + length plan.lines =
      ap (λ (n : ℕ). n * (most_parts plan * (5 * plan.windows) + 1)) kept.flags ∙ mul-add (length plan.lines) (most_parts plan * (5 * plan.windows)) 1 ∙ ap (λ (n : ℕ). length plan.lines * (most_parts plan * (5 * plan.windows)) + n) (mul-one (length plan.lines)) in
      let g : (length plan.lines + 1) * (most_parts plan * (5 * plan.windows)) ≡ length plan.lines * (most_parts plan * (5 * plan.windows)) + most_parts plan * (5 * plan.windows) =
      add-mul (length plan.lines) 1 (most_parts plan * (5 * plan.windows)) ∙ ap (λ (n : ℕ). length plan.lines * (most_parts plan * (5 * plan.windows)) + n) (one-mul (most_parts plan * (5 * plan.windows))) in
      omega arith

  -- ---- what an event adds

  -- one partition changed
  put_weight : (o i : ℕ) (x : Slot) → IsPart m o i → slots_weight plan (put m o i x) + slot_weight plan (slot m o i) ≡ slots_weight plan m + slot_weight plan x
  unfolding slots_weight
  put_weight o i x r =
      let old : ℕ → ℕ = λ p. sum_below (parts m p) (λ j. slot_weight plan (slot m p j)) in
      let new : ℕ → ℕ = λ p. sum_below (parts (put m o i x) p) (λ j. slot_weight plan (slot (put m o i x) p j)) in
      let size : (p : ℕ) → sum_below (parts (put m o i x) p) (λ j. slot_weight plan (slot (put m o i x) p j)) ≡ sum_below (parts m p) (λ j. slot_weight plan (slot (put m o i x) p j)) =
      λ p. ap (λ (n : ℕ). sum_below n (λ j. slot_weight plan (slot (put m o i x) p j))) (put_parts m o i x r p) in
      let inner = sum-one (parts m o) i (λ j. slot_weight plan (slot (put m o i x) o j)) (λ j. slot_weight plan (slot m o j)) r.1 (λ j s ne. ap (slot_weight plan) (slot_other m o i x r o j (λ e f. ne f))) in
      let here : slot_weight plan (slot (put m o i x) o i) ≡ slot_weight plan x = ap (slot_weight plan) (slot_here m o i x r) in
      let outer = sum-one (length m.ops) o (λ p. sum_below (parts (put m o i x) p) (λ j. slot_weight plan (slot (put m o i x) p j))) (λ p. sum_below (parts m p) (λ j. slot_weight plan (slot m p j))) r.0
      (λ p s ne. size p ∙ sum-same (parts m p) (λ j. slot_weight plan (slot (put m o i x) p j)) (λ j. slot_weight plan (slot m p j)) (λ j t. ap (slot_weight plan) (slot_other m o i x r p j (λ e f. ne e)))) in
      let whole : sum_below (length (put m o i x).ops) (λ p. sum_below (parts (put m o i x) p) (λ j. slot_weight plan (slot (put m o i x) p j))) ≡ sum_below (length m.ops) (λ p. sum_below (parts (put m o i x) p) (λ j. slot_weight plan (slot (put m o i x) p j))) =
      ap (λ (n : ℕ). sum_below n (λ p. sum_below (parts (put m o i x) p) (λ j. slot_weight plan (slot (put m o i x) p j)))) (put_ops m o i x r) in
      let sized = size o in
      omega arith

  put_rises : (o i : ℕ) (x : Slot) → IsPart m o i → slot_weight plan (slot m o i) < slot_weight plan x → weight plan m < weight plan (put m o i x)
  unfolding weight put
  put_rises o i x r h = let a = put_weight o i x r in omega arith

  start_rises : (o i w u : ℕ) → CanStart plan m o i w → slot_weight plan (slot m o i) < slot_weight plan (started w u (slot m o i))
  unfolding slot_weight lacks
  start_rises o i w u can = let a = closed_none (slot m o i).opened can.closed in omega arith

  finish_rises : (o i w : ℕ) → CanFinish plan m o i w → slot_weight plan (slot m o i) < slot_weight plan (finished w (slot m o i))
  unfolding slot_weight lacks
  finish_rises o i w can =
      let a = opened_one (slot m o i).opened can.opened in
      let n = ((kept.each o i can.part).opened w can.opened).0 in
      let b = one_least (is_checkpoint plan w && not (has (slot m o i).saved w)) in
      omega arith

  save_rises : (o i w : ℕ) → CanSave plan m o i w → slot_weight plan (slot m o i) < slot_weight plan (saves w (slot m o i))
  unfolding slot_weight lacks has
  save_rises o i w can =
      let now = can.now in
      let pos = can.positive in
      let a : cond {A = ℕ} (is_checkpoint plan (slot m o i).at && not (has (slot m o i).saved (slot m o i).at)) 1 0 ≡ 1 =
      ap (λ (b : Bool). cond {A = ℕ} b 1 0) (all_true (subst (λ (k : ℕ). is_checkpoint plan k ≡ true) now can.checkpoint) (ap not (subst (λ (k : ℕ). has (slot m o i).saved k ≡ false) now can.unsaved))) in
      let held : has ((slot m o i).saved ++ w ∷ []) (slot m o i).at ≡ true = has-append (slot m o i).saved (w ∷ []) (slot m o i).at
      ∙ or_right (has (slot m o i).saved (slot m o i).at) (w == (slot m o i).at || false) (ap (λ (b : Bool). b || false) (equal_by w (slot m o i).at now)) in
      let b : cond {A = ℕ} (is_checkpoint plan (slot m o i).at && not (has ((slot m o i).saved ++ w ∷ []) (slot m o i).at)) 1 0 ≡ 0 =
      ap (λ (c : Bool). cond {A = ℕ} (is_checkpoint plan (slot m o i).at && not c) 1 0) held ∙ ap (λ (c : Bool). cond {A = ℕ} c 1 0) (never (is_checkpoint plan (slot m o i).at)) in
      omega arith
    where
      never : (b : Bool) → (b && false) ≡ false
      never true = refl
      never false = refl

  reach : (w : ℕ) → CanCommit plan m w → (o i : ℕ) → IsPart m o i → w ≤ (slot m o i).rc
  unfolding least_rc
  reach w can o i r = let a = can.to in let b = least-le m (λ o i. (slot m o i).rc) plan.windows o i r in omega arith

  trimmed_same : {w : ℕ} (o i : ℕ) → w ≤ (slot m o i).at → slot_weight plan (trimmed w (slot m o i)) ≡ slot_weight plan (slot m o i)
  unfolding slot_weight lacks
  trimmed_same {w = w} o i h =
      let e : has (filter (λ v. nat_le w v) (slot m o i).saved) (slot m o i).at ≡ has (slot m o i).saved (slot m o i).at =
      has-filter (λ v. nat_le w v) (slot m o i).saved (slot m o i).at ∙ ap (λ (b : Bool). has (slot m o i).saved (slot m o i).at && b) (le-leb w (slot m o i).at h) ∙ whole (has (slot m o i).saved (slot m o i).at) in
      ap (λ (b : Bool). 2 * (slot m o i).at + cond {A = ℕ} (is_none (slot m o i).opened) 0 1 + ((slot m o i).at - cond {A = ℕ} (is_checkpoint plan (slot m o i).at && not b) 1 0) + (slot m o i).rc + (slot m o i).floor) e
    where
      whole : (b : Bool) → (b && true) ≡ b
      whole true = refl
      whole false = refl

  -- a state whose partitions weigh the same
  trim_weight : (w : ℕ) → CanCommit plan m w → slots_weight plan (map_slots (λ o i. trimmed w) m) ≡ slots_weight plan m
  unfolding slots_weight
  trim_weight w can =
      let n : State = map_slots (λ o i. trimmed w) m in
      let ops = map_ops (λ o i. trimmed w) m in
      ap (λ (k : ℕ). sum_below k (λ o. sum_below (parts (map_slots (λ o i. trimmed w) m) o) (λ i. slot_weight plan (slot (map_slots (λ o i. trimmed w) m) o i)))) ops
      ∙ sum-same (length m.ops) _ (λ o. sum_below (parts m o) (λ i. slot_weight plan (slot m o i))) (λ o r.
      ap (λ (k : ℕ). sum_below k (λ i. slot_weight plan (slot (map_slots (λ o i. trimmed w) m) o i))) (map_parts (λ o i. trimmed w) m o r)
      ∙ sum-same (parts m o) _ (λ i. slot_weight plan (slot m o i)) (λ i s. ap (slot_weight plan) (slot_map (λ o i. trimmed w) m o i (r, s)) ∙ trimmed_weight o i (r, s)))
    where
      trimmed_weight : (o i : ℕ) → IsPart m o i → slot_weight plan (trimmed w (slot m o i)) ≡ slot_weight plan (slot m o i)
      trimmed_weight o i r = trimmed_same o i (let s = kept.each o i r in let a = s.rc in let b = reach w can o i r in omega arith)

  commit_rises : (w : ℕ) → CanCommit plan m w → weight plan m < weight plan (record (map_slots (λ o i. trimmed w) m) { committed = w })
  unfolding weight slots_weight map_slots
  commit_rises w can = let a = trim_weight w can in let b = can.above in omega arith

  -- a line that is met outweighs what the partitions lose
  meet_rises : (n : State) (l : ℕ) → is_left m l ≡ true → n.left ≡ set m.left l false → n.stored ≡ m.stored → n.committed ≡ m.committed → running n ≡ running m → weight plan m < weight plan n
  unfolding weight
  meet_rises n l h left stored committed runs =
      let a = slots_least in
      let b = met-set (top plan + 1) m.left l h in
      let c : met_weight (top plan + 1) n.left ≡ met_weight (top plan + 1) (set m.left l false) = ap (met_weight (top plan + 1)) left in
      let d : cond {A = ℕ} (running n) 0 1 ≡ cond {A = ℕ} (running m) 0 1 = ap (λ (b : Bool). cond {A = ℕ} b 0 1) runs in
      omega arith

  stop_rises : (n : State) → slots_weight plan n ≡ slots_weight plan m → n.left ≡ m.left → n.stored ≡ m.stored → n.committed ≡ m.committed → running m ≡ true → running n ≡ false → weight plan m < weight plan n
  unfolding weight
  stop_rises n slots left stored committed on off =
      let c : met_weight (top plan + 1) n.left ≡ met_weight (top plan + 1) m.left = ap (met_weight (top plan + 1)) left in
      let d : cond {A = ℕ} (running n) 0 1 ≡ 1 = ap (λ (b : Bool). cond {A = ℕ} b 0 1) off in
      let e : cond {A = ℕ} (running m) 0 1 ≡ 0 = ap (λ (b : Bool). cond {A = ℕ} b 0 1) on in
      omega arith

  advance_rises : (o i w : ℕ) → (slot m o i).rc < w → slot_weight plan (slot m o i) < slot_weight plan (advanced w (slot m o i))
  unfolding slot_weight lacks
  advance_rises o i w h = omega arith

  purge_rises : (o i w : ℕ) → (slot m o i).floor < w → slot_weight plan (slot m o i) < slot_weight plan (purged w (slot m o i))
  unfolding slot_weight lacks
  purge_rises o i w h = omega arith

  write_rises : (w : ℕ) → w ≡ m.stored + 1 → weight plan m < weight plan (record m { stored = w })
  unfolding weight slots_weight
  write_rises w h = omega arith

  kill_rises : (u l : ℕ) → is_left m l ≡ true → weight plan m < weight plan (next plan m u (Kill l))
  unfolding map_slots meet
  kill_rises u l h = meet_rises (next plan m u (Kill l)) l h refl refl refl refl

  split_rises : (u l : ℕ) → is_left m l ≡ true → weight plan m < weight plan (next plan m u (Repartition l))
  unfolding meet split
  split_rises u l h = meet_rises (next plan m u (Repartition l)) l h refl refl refl refl

  end_rises : (u : ℕ) → running m ≡ true → weight plan m < weight plan (next plan m u End)
  unfolding slots_weight
  end_rises u on = stop_rises (record m { ended = true }) refl refl refl refl on refl

  fault_rises : (u s : ℕ) → running m ≡ true → weight plan m < weight plan (next plan m u (Fault s))
  unfolding slots_weight
  fault_rises u s on = stop_rises (record m { fault = Some s }) refl refl refl refl on (halted m.ended)
    where
      halted : (b : Bool) → cond b false false ≡ false
      halted true = refl
      halted false = refl

  pub rises : (u : ℕ) (e : Event) → running m ≡ true → Enabled plan m e → weight plan m < weight plan (next plan m u e)
  rises u (Start o i w) on h = put_rises o i (started w u (slot m o i)) h.part (start_rises o i w u h)
  rises u (Write w) on h = write_rises w h.next
  rises u (Finish o i w) on h = put_rises o i (finished w (slot m o i)) h.part (finish_rises o i w h)
  rises u (Save o i w) on h = put_rises o i (saves w (slot m o i)) h.part (save_rises o i w h)
  rises u (Advance o i w) on h = put_rises o i (advanced w (slot m o i)) h.part (advance_rises o i w h.above)
  rises u (Commit w) on h = commit_rises w h
  rises u (Purge o i w) on h = put_rises o i (purged w (slot m o i)) h.part (purge_rises o i w h.above)
  rises u (Kill l) on h = kill_rises u l (due_at plan m l h.due).left
  rises u (Repartition l) on h = split_rises u l h.left
  rises u End on h = end_rises u on
  rises u (Fault s) on h = fault_rises u s on

-- a journal is as long as the weight that it adds, at most
length_least : (plan : Plan) → IsPlan plan → (m : State) → Kept plan m → (es : List Entry) → is_legal plan m es ≡ true → length es + weight plan m ≤ bound plan
length_least plan is m kept [] h = let a = weight_least plan is m kept in omega arith
length_least plan is m kept (e ∷ es) h =
    let p = fits_parts plan m e es h in
    let kept' = events-keep plan m is kept e.worker e.event p.0 in
    let a = rises plan is m kept e.worker e.event (can_runs plan m e.event p.0) (can_facts plan m e.event p.0) in
    let b = length_least plan is (next plan m e.worker e.event) kept' es p.2 in
    omega arith

pub is-bounded : IsBounded
is-bounded plan s c es h =
    let a = length_least plan h.is (beginning plan s c) (kept_start plan s c h.is h.start) es h.legal in
    omega arith
