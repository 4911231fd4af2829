-- Each line of the script is met at most once, and where a run has ended exactly once.
use Rattle.std.proofs.Common.{◌≡◌, ℕ, zero, suc, ◌+◌, ◌<◌, ◌≤◌, ◌⊎◌, inl, inr, Bool, true, false, cond, not, ◌&&◌, ◌==◌, List, [], ◌∷◌, length, get_or, set, refl, sym, ap, subst, ◌∙◌, arith, Option, None, Some, is_none}
use Rattle.apx_history.specs.declared.Entry.{Entry}
use Rattle.apx_history.specs.declared.Event.{Event}
use Rattle.apx_history.specs.declared.Event.TheVariants.{Start, Write, Finish, Save, Advance, Commit, Purge, Kill, Repartition, End, Fault}
use Rattle.apx_history.specs.Plan.{Plan, last_checkpoint}
use Rattle.apx_history.specs.State.{State, slot, IsPart, is_left, running, put, map_slots}
use Rattle.apx_history.specs.Enabled.{can}
use Rattle.apx_history.specs.Effects.{meet, split, next}
use Rattle.apx_history.specs.Conditions.{Enabled, CanEnd}
use Rattle.apx_history.specs.Journals.{beginning, is_legal, after, meets, times_met}
use Rattle.apx_history.specs.Kept.{IsPlan, Kept}
use Rattle.apx_history.specs.Laws.{IsHistory, IsAtEnd, EndsWell}
use Rattle.apx_history.proofs.Tests.{test}
use Rattle.apx_history.proofs.Conditions.{equal_at, equal_by, due_at}
use Rattle.apx_history.proofs.Lines.{flag_cleared, flag_other}
use Rattle.apx_history.proofs.Progress.{sink_slot}
use Rattle.apx_history.proofs.Legal.{can_facts, can_runs, fits_parts, kept_start, histories-keep, all_left}

differ : {b : Bool} → b ≡ false → b ≡ true → ⊥
differ h g = let e : false ≡ true = sym h ∙ g in cc

module _ (plan : Plan) (m : State) (u l : ℕ) where
  -- an event that meets line l finds it left and clears it, and no other changes it
  met_line : (k : ℕ) → is_left m k ≡ true → cond {A = ℕ} (k == l) 1 0 + cond {A = ℕ} (get_or (set m.left k false) l false) 1 0 ≡ cond {A = ℕ} (is_left m l) 1 0
  met_line k h = by (test (k == l))
    where
      by : (k == l ≡ true) ⊎ (k == l ≡ false) → cond {A = ℕ} (k == l) 1 0 + cond {A = ℕ} (get_or (set m.left k false) l false) 1 0 ≡ cond {A = ℕ} (is_left m l) 1 0
      by (inl s) =
          let e : k ≡ l = equal_at k l s in
          let gone : cond {A = ℕ} (get_or (set m.left k false) l false) 1 0 ≡ 0 = ap (λ (j : ℕ). cond {A = ℕ} (get_or (set m.left k false) j false) 1 0) (sym e) ∙ ap (λ (b : Bool). cond {A = ℕ} b 1 0) (flag_cleared m.left k) in
          let here : cond {A = ℕ} (is_left m l) 1 0 ≡ 1 = ap (λ (j : ℕ). cond {A = ℕ} (is_left m j) 1 0) (sym e) ∙ ap (λ (b : Bool). cond {A = ℕ} b 1 0) h in
          let one : cond {A = ℕ} (k == l) 1 0 ≡ 1 = ap (λ (b : Bool). cond {A = ℕ} b 1 0) s in
          omega arith
      by (inr s) =
          let ne : l ≡ k → ⊥ = λ e. differ s (equal_by k l (sym e)) in
          let none : cond {A = ℕ} (k == l) 1 0 ≡ 0 = ap (λ (b : Bool). cond {A = ℕ} b 1 0) s in
          let same : cond {A = ℕ} (get_or (set m.left k false) l false) 1 0 ≡ cond {A = ℕ} (is_left m l) 1 0 = ap (λ (b : Bool). cond {A = ℕ} b 1 0) (flag_other m.left k l ne) in
          omega arith

  pub met_by : (e : Event) → Enabled plan m e → cond {A = ℕ} (meets l e) 1 0 + cond {A = ℕ} (is_left (next plan m u e) l) 1 0 ≡ cond {A = ℕ} (is_left m l) 1 0
  unfolding put map_slots meet split
  met_by (Start o i w) h = omega arith
  met_by (Write w) h = omega arith
  met_by (Finish o i w) h = omega arith
  met_by (Save o i w) h = omega arith
  met_by (Advance o i w) h = omega arith
  met_by (Commit w) h = omega arith
  met_by (Purge o i w) h = omega arith
  met_by (Kill k) h = met_line k (due_at plan m k h.due).left
  met_by (Repartition k) h = met_line k h.left
  met_by End h = omega arith
  met_by (Fault s) h = omega arith

  runs_on : running m ≡ true → m.ended ≡ false
  runs_on h = by m.ended m.fault h
    where
      by : (b : Bool) (f : Option ℕ) → cond b false (is_none f) ≡ true → b ≡ false
      by true f h = cc
      by false f h = refl

  -- the run ends by End alone
  pub ended_by : (e : Event) → can plan m e ≡ true → (next plan m u e).ended ≡ true → CanEnd plan m × ((next plan m u e) ≡ record m { ended = true })
  unfolding put map_slots meet split
  ended_by (Start o i w) h g = absurd (differ (runs_on (can_runs plan m (Start o i w) h)) g)
  ended_by (Write w) h g = absurd (differ (runs_on (can_runs plan m (Write w) h)) g)
  ended_by (Finish o i w) h g = absurd (differ (runs_on (can_runs plan m (Finish o i w) h)) g)
  ended_by (Save o i w) h g = absurd (differ (runs_on (can_runs plan m (Save o i w) h)) g)
  ended_by (Advance o i w) h g = absurd (differ (runs_on (can_runs plan m (Advance o i w) h)) g)
  ended_by (Commit w) h g = absurd (differ (runs_on (can_runs plan m (Commit w) h)) g)
  ended_by (Purge o i w) h g = absurd (differ (runs_on (can_runs plan m (Purge o i w) h)) g)
  ended_by (Kill k) h g = absurd (differ (runs_on (can_runs plan m (Kill k) h)) g)
  ended_by (Repartition k) h g = absurd (differ (runs_on (can_runs plan m (Repartition k) h)) g)
  ended_by End h g = (can_facts plan m End h, refl)
  ended_by (Fault s) h g = absurd (differ (runs_on (can_runs plan m (Fault s) h)) g)

-- how often a line was met, and whether it is left
pub met_after : (plan : Plan) (m : State) (es : List Entry) → is_legal plan m es ≡ true → (l : ℕ) → times_met l es + cond {A = ℕ} (is_left (after plan m es) l) 1 0 ≡ cond {A = ℕ} (is_left m l) 1 0
met_after plan m [] h l = omega arith
met_after plan m (e ∷ es) h l =
    let p = fits_parts plan m e es h in
    let a = met_by plan m e.worker l e.event (can_facts plan m e.event p.0) in
    let b = met_after plan (next plan m e.worker e.event) es p.2 l in
    omega arith

-- what holds of a state that has ended
Over : Plan → State → Type 0
Over plan m = m.ended ≡ true → ((l : ℕ) → is_left m l ≡ false) × ((o i : ℕ) → IsPart m o i → (slot m o i).at ≡ plan.windows) × (m.committed ≡ last_checkpoint plan plan.windows)

over_after : (plan : Plan) (m : State) (es : List Entry) → Over plan m → is_legal plan m es ≡ true → Over plan (after plan m es)
unfolding Over
over_after plan m [] o h = o
over_after plan m (e ∷ es) o h =
    let p = fits_parts plan m e es h in
    over_after plan (next plan m e.worker e.event) es
    (λ g. (let c = ended_by plan m e.worker 0 e.event p.0 g in
    subst (λ (n : State). ((l : ℕ) → is_left n l ≡ false) × ((o i : ℕ) → IsPart n o i → (slot n o i).at ≡ plan.windows) × (n.committed ≡ last_checkpoint plan plan.windows)) (sym c.1) (c.0.met, c.0.at, c.0.committed))) p.2

fresh_start : (plan : Plan) (s c : ℕ) → Over plan (beginning plan s c)
unfolding Over beginning
fresh_start plan s c g = cc

left_at : (plan : Plan) (s c l : ℕ) → l < length plan.lines → is_left (beginning plan s c) l ≡ true
unfolding beginning
left_at plan s c l r = all_left plan.lines l r

pub ends-well : EndsWell
unfolding Over
ends-well plan s c es h end =
    let m : State = after plan (beginning plan s c) es in
    let kept = histories-keep plan s c es h in
    let over = over_after plan (beginning plan s c) es (fresh_start plan s c) h.legal end in
    record {
      stored = (let a = kept.sink in let b = kept.stored in let e = over.1 plan.sink 0 (sink_slot plan h.is (after plan (beginning plan s c) es) kept) in omega arith);
      committed = over.2;
      once = λ l r.
          let a = met_after plan (beginning plan s c) es h.legal l in
          let gone : cond {A = ℕ} (is_left (after plan (beginning plan s c) es) l) 1 0 ≡ 0 = ap (λ (b : Bool). cond {A = ℕ} b 1 0) (over.0 l) in
          let was : cond {A = ℕ} (is_left (beginning plan s c) l) 1 0 ≡ 1 = ap (λ (b : Bool). cond {A = ℕ} b 1 0) (left_at plan s c l r) in
          omega arith;
    }
