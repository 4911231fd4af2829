-- Whoever stores, finishes or kills what a partition has open has begun it.
use Rattle.std.proofs.Common.{◌≡◌, ℕ, ◌⊎◌, inl, inr, true, false, ◌||◌, ◌==◌, List, [], ◌∷◌, Option, None, Some, refl, sym, ap, ◌∙◌}
use Rattle.std.specs.List.{list_any}
use Rattle.apx_history.specs.declared.Entry.{Entry}
use Rattle.apx_history.specs.declared.Event.{Event}
use Rattle.apx_history.specs.declared.Event.TheVariants.{Start, Write, Finish, Kill}
use Rattle.apx_history.specs.declared.Act.{Act}
use Rattle.apx_history.specs.declared.Act.TheVariants.{Fails, Splits}
use Rattle.apx_history.specs.Plan.{Plan, line, fails_part, kills}
use Rattle.apx_history.specs.State.{State, slot, open_window, open_worker}
use Rattle.apx_history.specs.Effects.{next}
use Rattle.apx_history.specs.Conditions.{Enabled}
use Rattle.apx_history.specs.Journals.{beginning, owed_act, owed, bears, is_legal, after}
use Rattle.apx_history.specs.Laws.{closes}
use Rattle.apx_history.proofs.Tests.{both, test}
use Rattle.apx_history.proofs.Conditions.{equal_at}
use Rattle.apx_history.proofs.Legal.{can_facts, fits_parts}
use Rattle.apx_hands.proofs.Covering.{begins_covered}
use Rattle.apx_hands.proofs.Opening.{came, shuts}
use Rattle.apx_course.specs.Course.{entry}
use Rattle.apx_promise.specs.Histories.{state_after, WasBegun}
use Rattle.apx_promise.specs.Laws.{AllEndWhatTheyBegan}
use Rattle.apx_promise.proofs.Reading.{front_of}

-- a closed partition has nothing open
none : {X : Type 0} (x : Option (ℕ × ℕ)) (p : ℕ × ℕ) → x ≡ None → x ≡ Some p → X
none x p shut open' = absurd (let e : None ≡ Some p = sym shut ∙ open' in cc)

-- what is open behind an event was open before, and the event doesn't close it; or the event has begun it
pub opened_before : (plan : Plan) (m : State) (v : ℕ) (e : Event) → Enabled plan m e → (w u o i : ℕ) → (slot (next plan m v e) o i).opened ≡ Some (w, u) →
    (((slot m o i).opened ≡ Some (w, u)) × (closes plan o i e ≡ false)) ⊎ ((e ≡ Start o i w) × (v ≡ u))
opened_before plan m v e h w u o i is = elim (test (closes plan o i e)) [
  | inl shut ↦ none (slot (next plan m v e) o i).opened (w, u) (shuts plan m v e h o i shut) is
  | inr calm ↦ elim (came plan m v e h o i w u is) [ inl old ↦ inl (old, calm) | inr new ↦ inr (new.0, sym new.1) ]
]

-- ---- all entries

begun_in : (plan : Plan) (m : State) (es : List Entry) → is_legal plan m es ≡ true → (o i w u : ℕ) → (slot (after plan m es) o i).opened ≡ Some (w, u) →
    (((slot m o i).opened ≡ Some (w, u)) × (list_any (λ e. closes plan o i e.event) es ≡ false)) ⊎ WasBegun plan es o i w u
begun_in plan m [] h o i w u is = inl (is, refl)
begun_in plan m (e ∷ es) h o i w u is =
    let p = fits_parts plan m e es h in
    elim (begun_in plan (next plan m e.worker e.event) es p.2 o i w u is) [
      | inr later ↦ inr (record { before = e ∷ later.before; since = later.since; began = ap (λ xs. e ∷ xs) later.began; stayed = later.stayed })
      | inl was ↦ elim (opened_before plan m e.worker e.event (can_facts plan m e.event p.0) w u o i was.0) [
        | inl old ↦ inl (old.0, ap (λ b. b || list_any (λ e. closes plan o i e.event) es) old.1 ∙ was.1)
        | inr new ↦ inr (record {
          before = [];
          since = es;
          began = ap (λ x. entry e.worker x ∷ es) new.0 ∙ ap (λ x. entry x (Start o i w) ∷ es) new.1;
          stayed = was.1;
        })
      ]
    ]

-- at the start nothing is open
pub none_begun : (plan : Plan) (s c o i w u : ℕ) → (slot (beginning plan s c) o i).opened ≡ Some (w, u) → ⊥
none_begun plan s c o i w u is = ((begins_covered (λ o i w u (x : ℕ). ⊥) plan s c []).each o i w u is).2

was_begun : (plan : Plan) (s c : ℕ) (front : List Entry) → is_legal plan (beginning plan s c) front ≡ true → (o i w u : ℕ) →
    (slot (state_after plan s c front) o i).opened ≡ Some (w, u) → WasBegun plan front o i w u
was_begun plan s c front h o i w u is = elim (begun_in plan (beginning plan s c) front h o i w u is) [
  | inl at_first ↦ absurd (none_begun plan s c o i w u at_first.0)
  | inr begun ↦ begun
]

-- ---- who owes it

-- the window that is open, and its worker
open_by : (x : Option (ℕ × ℕ)) (w worker : ℕ) → open_window x ≡ Some w → bears (open_worker x) worker ≡ true → x ≡ Some (w, worker)
open_by None w worker h b = cc
open_by (Some x) w worker h b = let window : x.0 ≡ w = cc in let owner = equal_at x.1 worker b in ap (λ k. Some (k, x.1)) window ∙ ap (λ k. Some (w, k)) owner

-- the worker of a partition that is killed
owes : (x : Option ℕ) (u worker : ℕ) → x ≡ Some u → bears x worker ≡ true → u ≡ worker
owes None u worker is b = cc
owes (Some y) u worker is b = let same : y ≡ u = cc in sym same ∙ equal_at y worker b

owed_kill : (plan : Plan) (m : State) (o i l : ℕ) → kills o i (line plan l) ≡ true → owed plan m (Kill l) ≡ open_worker (slot m o i).opened
owed_kill plan m o i l k =
    let h = both ((line plan l).op == o) (fails_part i (line plan l).act) k in
    ap (λ p. owed_act m p (line plan l).act) (equal_at (line plan l).op o h.0) ∙ of_act (line plan l).act h.1
  where
    of_act : (a : Act) → fails_part i a ≡ true → owed_act m o a ≡ open_worker (slot m o i).opened
    of_act (Fails point part) f = ap (λ k. open_worker (slot m o k).opened) (equal_at part i f)
    of_act (Splits count) f = cc

pub own : AllEndWhatTheyBegan
own plan s c es h = record {
  stored = λ front rest worker w is.
      let begun = front_of plan s c es front (entry worker (Write w) ∷ rest) h is in
      let m = state_after plan s c front in
      let may = fits_parts plan m (entry worker (Write w)) rest begun.1 in
      was_begun plan s c front begun.0.legal plan.sink 0 w worker
      (open_by (slot m plan.sink 0).opened w worker (can_facts plan m (Write w) may.0).opened may.1);
  finished = λ front rest worker o i w is.
      let begun = front_of plan s c es front (entry worker (Finish o i w) ∷ rest) h is in
      let m = state_after plan s c front in
      let may = fits_parts plan m (entry worker (Finish o i w)) rest begun.1 in
      was_begun plan s c front begun.0.legal o i w worker
      (open_by (slot m o i).opened w worker (can_facts plan m (Finish o i w) may.0).opened may.1);
  killed = λ front rest worker o i w u l is kill open'.
      let begun = front_of plan s c es front (entry worker (Kill l) ∷ rest) h is in
      let m = state_after plan s c front in
      let may = fits_parts plan m (entry worker (Kill l)) rest begun.1 in
      let owner : u ≡ worker = owes (owed plan m (Kill l)) u worker (owed_kill plan m o i l kill ∙ ap open_worker open') may.1 in
      was_begun plan s c front begun.0.legal o i w worker (open' ∙ ap (λ k. Some (w, k)) owner);
}
