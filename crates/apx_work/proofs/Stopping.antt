-- When a run is over.
use Rattle.std.proofs.Common.{◌≡◌, ℕ, Bool, true, false, cond, inl, inr, ◌⊎◌, List, [], ◌∷◌, ◌++◌, Option, Some, is_none, refl, sym, ap, ◌∙◌}
use Rattle.apx_history.specs.declared.Entry.{Entry}
use Rattle.apx_history.specs.declared.Event.{Event}
use Rattle.apx_history.specs.declared.Event.TheVariants.{Start, Write, Finish, Save, Advance, Commit, Purge, Kill, Repartition, End, Fault}
use Rattle.apx_history.specs.Plan.{Plan}
use Rattle.apx_history.specs.State.{State, running, put, map_slots}
use Rattle.apx_history.specs.Effects.{meet, split, next}
use Rattle.apx_history.specs.Journals.{beginning, is_legal, after}
use Rattle.apx_history.specs.Choices.{choices, IsListed, Among}
use Rattle.apx_history.specs.Laws.{IsHistory, ChoicesAreExact}
use Rattle.apx_history.proofs.Tests.{test}
use Rattle.apx_history.proofs.Legal.{can_runs, fits_parts, after-append, legal-append}
use Rattle.apx_course.specs.Course.{entry}
use Rattle.apx_course.specs.Faults.{is_fault}
use Rattle.apx_machine.specs.Picked.{first_that, may_do, first_for}
use Rattle.apx_work.specs.Own.{state_of}
use Rattle.apx_work.specs.Turns.{ends_run, IsOver, Stops}

apart : {b : Bool} → b ≡ true → b ≡ false → ⊥
apart h g = let e : true ≡ false = sym h ∙ g in cc

-- ---- which events end a run

module _ (plan : Plan) (m : State) (u : ℕ) where
  goes_on : (e : Event) → ends_run e ≡ false → running (next plan m u e) ≡ running m
  unfolding put map_slots meet split
  goes_on (Start o i w) h = refl
  goes_on (Write w) h = refl
  goes_on (Finish o i w) h = refl
  goes_on (Save o i w) h = refl
  goes_on (Advance o i w) h = refl
  goes_on (Commit w) h = refl
  goes_on (Purge o i w) h = refl
  goes_on (Kill l) h = refl
  goes_on (Repartition l) h = refl
  goes_on End h = absurd (cc h)
  goes_on (Fault s) h = absurd (cc h)

  faulted : (b : Bool) (s : ℕ) → cond b false (is_none (Some s)) ≡ false
  faulted true s = refl
  faulted false s = refl

  ends : (e : Event) → ends_run e ≡ true → running (next plan m u e) ≡ false
  ends (Start o i w) h = absurd (cc h)
  ends (Write w) h = absurd (cc h)
  ends (Finish o i w) h = absurd (cc h)
  ends (Save o i w) h = absurd (cc h)
  ends (Advance o i w) h = absurd (cc h)
  ends (Commit w) h = absurd (cc h)
  ends (Purge o i w) h = absurd (cc h)
  ends (Kill l) h = absurd (cc h)
  ends (Repartition l) h = absurd (cc h)
  ends End h = refl
  ends (Fault s) h = faulted m.ended s

-- behind a run that goes on no more nothing may come
none_behind : (plan : Plan) (m : State) (es : List Entry) → is_legal plan m es ≡ true → running m ≡ false → es ≡ []
none_behind plan m [] h stands = refl
none_behind plan m (e ∷ es) h stands = absurd (apart (can_runs plan m e.event (fits_parts plan m e es h).0) stands)

-- ---- over

over_longer : (e : Entry) (es : List Entry) → IsOver es → IsOver (e ∷ es)
over_longer e es over = (e ∷ over.0, over.1, ap (λ (l : List Entry). e ∷ l) over.2, over.3)

over_from : (plan : Plan) (m : State) (es : List Entry) → is_legal plan m es ≡ true → running m ≡ true → running (after plan m es) ≡ false → IsOver es
over_from plan m [] h runs stands = absurd (apart runs stands)
over_from plan m (e ∷ es) h runs stands =
    let p = fits_parts plan m e es h in
    elim (test (ends_run e.event)) [
      | inl last ↦
          let none : es ≡ [] = none_behind plan (next plan m e.worker e.event) es p.2 (ends plan m e.worker e.event last) in
          ([], e, ap (λ (l : List Entry). e ∷ l) none, last)
      | inr more ↦
          over_longer e es (over_from plan (next plan m e.worker e.event) es p.2 (goes_on plan m e.worker e.event more ∙ runs) stands)
    ]

-- a run that goes on no more is over
pub over_of : (plan : Plan) (s c : ℕ) (es : List Entry) → IsHistory plan s c es → running (state_of plan s c es) ≡ false → IsOver es
unfolding beginning
over_of plan s c es is stands = over_from plan (beginning plan s c) es is.legal refl stands

-- a run begins by going on
runs_first : (plan : Plan) (s c : ℕ) → running (beginning plan s c) ≡ true
unfolding beginning
runs_first plan s c = refl

pub begins : (plan : Plan) (s c : ℕ) (es : List Entry) → es ≡ [] → running (state_of plan s c es) ≡ true
begins plan s c es none = ap (λ (l : List Entry). running (state_of plan s c l)) none ∙ runs_first plan s c

-- and so is one that stopped
pub stops_over : (u : ℕ) (old new : List Entry) → Stops u old new → IsOver new
stops_over u old new stops = (old, entry u (Fault stops.0), stops.1, refl)

-- where it is over it goes on no more
pub over_stands : (plan : Plan) (m : State) (es : List Entry) → IsOver es → running (after plan m es) ≡ false
over_stands plan m es over =
    ap (λ (l : List Entry). running (after plan m l)) over.2 ∙ ap running (after-append plan m over.0 (over.1 ∷ []))
    ∙ ends plan (after plan m over.0) over.1.worker over.1.event over.3

-- a history whose front is over is that front
pub over_whole : (plan : Plan) (s c : ℕ) (front rest : List Entry) → IsHistory plan s c (front ++ rest) → IsOver front → rest ≡ []
over_whole plan s c front rest is over =
    none_behind plan (after plan (beginning plan s c) front) rest (legal-append plan (beginning plan s c) front rest is.legal).1
    (over_stands plan (beginning plan s c) front over)

-- ---- the first choice of a worker is no fault

among_first : (p : Event → Bool) (es : List Event) (e : Event) → first_that p es ≡ Some e → Among e es
unfolding first_that
among_first p [] e h = absurd (cc h)
among_first p (x ∷ es) e h = by (test (p x)) (λ later. among_first p es e later)
  where
    by : (p x ≡ true) ⊎ (p x ≡ false) → (first_that p es ≡ Some e → Among e es) → (x ≡ e) ⊎ Among e es
    by (inl s) rest = let f : Some x ≡ Some e = sym (ap (λ (b : Bool). cond b (Some x) (first_that p es)) s) ∙ h in let g : x ≡ e = cc in inl g
    by (inr s) rest = inr (rest (sym (ap (λ (b : Bool). cond b (Some x) (first_that p es)) s) ∙ h))

listed_goes : (plan : Plan) (m : State) (e : Event) → IsListed plan m e → is_fault e ≡ false
listed_goes plan m (Start o i w) h = refl
listed_goes plan m (Write w) h = refl
listed_goes plan m (Finish o i w) h = refl
listed_goes plan m (Save o i w) h = refl
listed_goes plan m (Advance o i w) h = refl
listed_goes plan m (Commit w) h = refl
listed_goes plan m (Purge o i w) h = refl
listed_goes plan m (Kill l) h = refl
listed_goes plan m (Repartition l) h = refl
listed_goes plan m End h = refl
listed_goes plan m (Fault s) h = absurd h

pub first_goes : ChoicesAreExact → (plan : Plan) (m : State) (u : ℕ) (claim : Option (ℕ × ℕ)) (e : Event) → first_for plan m u claim ≡ Some e → is_fault e ≡ false
first_goes exact plan m u claim e h =
    listed_goes plan m e ((exact plan m e).0 (among_first (may_do plan m u claim) (choices plan m) e h)).1
