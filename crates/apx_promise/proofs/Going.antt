-- A run that hasn't stopped goes on.
use Rattle.std.proofs.Common.{◌≡◌, ℕ, ◌⊎◌, inl, inr, Bool, true, false, cond, ◌||◌, List, [], ◌∷◌, ◌++◌, Option, None, Some, is_none, refl, sym, ap, ◌∙◌}
use Rattle.std.specs.List.{list_any}
use Rattle.apx_history.specs.declared.Entry.{Entry}
use Rattle.apx_history.specs.declared.Event.{Event}
use Rattle.apx_history.specs.declared.Event.TheVariants.{Start, Write, Finish, Save, Advance, Commit, Purge, Kill, Repartition, End, Fault}
use Rattle.apx_history.specs.Plan.{Plan}
use Rattle.apx_history.specs.State.{State, running, put, map_slots}
use Rattle.apx_history.specs.Enabled.{can}
use Rattle.apx_history.specs.Effects.{meet, split, next}
use Rattle.apx_history.specs.Journals.{beginning, owed, bears, is_legal, after}
use Rattle.apx_history.specs.Laws.{IsHistory}
use Rattle.apx_history.proofs.Tests.{test}
use Rattle.apx_history.proofs.Conditions.{all_true, equal_by}
use Rattle.apx_history.proofs.Listed.{choices-exact, always-goes-on}
use Rattle.apx_history.proofs.Legal.{can_runs, fits_parts, append-legal, histories-keep}
use Rattle.apx_course.specs.Course.{entry}
use Rattle.apx_promise.specs.Histories.{EndsWith, state_after, stops}
use Rattle.apx_promise.specs.Laws.{AllGoOn}
use Rattle.apx_promise.proofs.Reading.{front_of}

-- an event that stops no run leaves it running
pub runs_after : (plan : Plan) (m : State) (u : ℕ) (e : Event) → stops e ≡ false → running m ≡ true → running (next plan m u e) ≡ true
unfolding put map_slots meet split
runs_after plan m u (Start o i w) h r = r
runs_after plan m u (Write w) h r = r
runs_after plan m u (Finish o i w) h r = r
runs_after plan m u (Save o i w) h r = r
runs_after plan m u (Advance o i w) h r = r
runs_after plan m u (Commit w) h r = r
runs_after plan m u (Purge o i w) h r = r
runs_after plan m u (Kill l) h r = r
runs_after plan m u (Repartition l) h r = r
runs_after plan m u End h r = cc
runs_after plan m u (Fault s) h r = cc

-- and one that stops a run doesn't
pub stands_after : (plan : Plan) (m : State) (u : ℕ) (e : Event) → stops e ≡ true → running (next plan m u e) ≡ false
stands_after plan m u (Start o i w) h = cc
stands_after plan m u (Write w) h = cc
stands_after plan m u (Finish o i w) h = cc
stands_after plan m u (Save o i w) h = cc
stands_after plan m u (Advance o i w) h = cc
stands_after plan m u (Commit w) h = cc
stands_after plan m u (Purge o i w) h = cc
stands_after plan m u (Kill l) h = cc
stands_after plan m u (Repartition l) h = cc
stands_after plan m u End h = refl
stands_after plan m u (Fault s) h = by m.ended
  where
    by : (b : Bool) → cond b false (is_none (Some s)) ≡ false
    by true = refl
    by false = refl

neither : (a b : Bool) → (a || b) ≡ false → (a ≡ false) × (b ≡ false)
neither true b h = cc
neither false b h = (refl, h)

pub runs_on : (plan : Plan) (m : State) (es : List Entry) → running m ≡ true → list_any (λ e. stops e.event) es ≡ false → running (after plan m es) ≡ true
runs_on plan m [] r h = r
runs_on plan m (e ∷ es) r h =
    let n = neither (stops e.event) (list_any (λ e. stops e.event) es) h in
    runs_on plan (next plan m e.worker e.event) es (runs_after plan m e.worker e.event n.0 r) n.1

pub begins_running : (plan : Plan) (s c : ℕ) → running (beginning plan s c) ≡ true
unfolding beginning
begins_running plan s c = refl

-- nothing is behind what stops a run
none_behind : (plan : Plan) (m : State) (es : List Entry) → running m ≡ false → is_legal plan m es ≡ true → es ≡ []
none_behind plan m [] r h = refl
none_behind plan m (e ∷ es) r h =
    let p = fits_parts plan m e es h in
    let both : false ≡ true = sym r ∙ can_runs plan m e.event p.0 in
    cc

-- a run that goes on has met no fault
no_fault : (b : Bool) (f : Option ℕ) → cond b false (is_none f) ≡ true → f ≡ None
no_fault true f h = cc
no_fault false None h = refl
no_fault false (Some x) h = cc

-- how a run that goes on no more ends
abbrev IsOver : State → List Entry → Type 0
IsOver m es = (EndsWith End es × (m.fault ≡ None)) ⊎ ((status : ℕ) × EndsWith (Fault status) es × (m.fault ≡ Some status))

stopped_by : (plan : Plan) (m : State) (u : ℕ) (e : Event) → stops e ≡ true → running m ≡ true → IsOver (next plan m u e) (entry u e ∷ [])
stopped_by plan m u (Start o i w) stop runs = cc
stopped_by plan m u (Write w) stop runs = cc
stopped_by plan m u (Finish o i w) stop runs = cc
stopped_by plan m u (Save o i w) stop runs = cc
stopped_by plan m u (Advance o i w) stop runs = cc
stopped_by plan m u (Commit w) stop runs = cc
stopped_by plan m u (Purge o i w) stop runs = cc
stopped_by plan m u (Kill l) stop runs = cc
stopped_by plan m u (Repartition l) stop runs = cc
stopped_by plan m u End stop runs = inl (record { front = []; worker = u; is = refl }, no_fault m.ended m.fault runs)
stopped_by plan m u (Fault s) stop runs = inr (s, record { front = []; worker = u; is = refl }, refl)

over_by : (plan : Plan) (m : State) (u : ℕ) (e : Event) → running m ≡ true → running (next plan m u e) ≡ false → IsOver (next plan m u e) (entry u e ∷ [])
over_by plan m u e runs stood = elim (test (stops e)) [
  | inl stop ↦ stopped_by plan m u e stop runs
  | inr goes ↦ absurd (let both : false ≡ true = sym stood ∙ runs_after plan m u e goes runs in cc)
]

-- with an entry before the others
before_over : (m : State) (e : Entry) (es : List Entry) → IsOver m es → IsOver m (e ∷ es)
before_over m e es (inl end) = inl (record { front = e ∷ end.0.front; worker = end.0.worker; is = ap (λ xs. e ∷ xs) end.0.is }, end.1)
before_over m e es (inr fault) = inr (fault.0, record { front = e ∷ fault.1.front; worker = fault.1.worker; is = ap (λ xs. e ∷ xs) fault.1.is }, fault.2)

over_after : (plan : Plan) (m : State) (es : List Entry) → running m ≡ true → is_legal plan m es ≡ true → running (after plan m es) ≡ false → IsOver (after plan m es) es
over_after plan m [] runs h stood = absurd (let both : false ≡ true = sym stood ∙ runs in cc)
over_after plan m (e ∷ []) runs h stood = over_by plan m e.worker e.event runs stood
over_after plan m (e ∷ f ∷ es) runs h stood =
    let p = fits_parts plan m e (f ∷ es) h in
    let q = fits_parts plan (next plan m e.worker e.event) f es p.2 in
    before_over (after plan m (e ∷ f ∷ es)) e (f ∷ es)
    (over_after plan (next plan m e.worker e.event) (f ∷ es) (can_runs plan (next plan m e.worker e.event) f.event q.0) p.2 stood)

-- some worker may do what is owed
bearer : Option ℕ → ℕ
bearer None = 0
bearer (Some u) = u

borne : (x : Option ℕ) → bears x (bearer x) ≡ true
unfolding bearer
borne None = refl
borne (Some u) = equal_by u u refl

pub one_more : (plan : Plan) (s c : ℕ) (es : List Entry) → IsHistory plan s c es → (worker : ℕ) (e : Event) →
    can plan (state_after plan s c es) e ≡ true → bears (owed plan (state_after plan s c es) e) worker ≡ true →
    IsHistory plan s c (es ++ entry worker e ∷ [])
one_more plan s c es h worker e may bear = record {
  is = h.is;
  start = h.start;
  legal = append-legal plan (beginning plan s c) es (entry worker e ∷ []) h.legal (all_true (all_true may bear) refl);
}

pub goes_on : AllGoOn
goes_on plan s c es h = record {
  last = λ front rest e is stop.
      let begun = front_of plan s c es front (e ∷ rest) h is in
      let m = state_after plan s c front in
      none_behind plan (next plan m e.worker e.event) rest (stands_after plan m e.worker e.event stop) (fits_parts plan m e rest begun.1).2;
  over = λ stood. over_after plan (beginning plan s c) es (begins_running plan s c) h.legal stood;
  choice = λ none. always-goes-on plan (state_after plan s c es) h.is (histories-keep plan s c es h)
      (runs_on plan (beginning plan s c) es (begins_running plan s c) none);
  next = λ e among.
      let m = state_after plan s c es in
      let may = (choices-exact plan m e).0 among in
      (bearer (owed plan m e), one_more plan s c es h (bearer (owed plan m e)) e may.0 (borne (owed plan m e)));
}
