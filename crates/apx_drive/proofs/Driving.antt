-- A run that is driven, an event after the other.
use Rattle.std.proofs.Common.{◌≡◌, ℕ, zero, suc, ◌+◌, ◌<◌, ◌%◌, Bool, true, false, cond, inl, inr, List, [], ◌∷◌, ◌++◌, length, get_or, Some, is_none, refl, sym, ap, subst, ◌∙◌, arith}
use Rattle.std.specs.Prelude.{Result, Ok, Err, OnOk}
use Rattle.std.specs.Result.{is_err}
use Rattle.std.proofs.lemmas.List.{length_push}
use Rattle.rand_pcg.specs.Lcg.{Lcg}
use Rattle.apx_history.specs.declared.Entry.{Entry}
use Rattle.apx_history.specs.declared.Event.{Event}
use Rattle.apx_history.specs.declared.Event.TheVariants.{Start, Write, Finish, Save, Advance, Commit, Purge, Kill, Repartition, End, Fault}
use Rattle.apx_history.specs.Plan.{Plan}
use Rattle.apx_history.specs.State.{State, running}
use Rattle.apx_history.specs.Effects.{next}
use Rattle.apx_history.specs.Journals.{beginning, after}
use Rattle.apx_history.specs.Choices.{choices, picked, IsPicked, IsListed, Among}
use Rattle.apx_history.specs.Laws.{IsHistory, ChoicesAreExact}
use Rattle.apx_course.specs.Faults.{is_fault}
use Rattle.apx_course.specs.Course.{entry}
use Rattle.apx_history.specs.Enabled.{can}
use Rattle.apx_history.proofs.Legal.{can_facts}
use Rattle.apx_drive.proofs.Owing.{OpenBy, begins_closed, event_by}
use Rattle.apx_drive.specs.Driven.{generator_of, drawn, behind, behind_all, word_of, Place, Goes, Stops, IsDriven}

-- a run that goes on: what happened so far is what the order picks, and the generator stands behind it
pub record Driving (plan : Plan) (order s c : ℕ) (place : Place) (generator : Lcg) : Type 0 where
  -- what happened is a history
  pub history : IsHistory plan s c place.journal
  -- the machine is in the state after it
  pub state : place.machine ≡ after plan (beginning plan s c) place.journal
  -- it is what the order picks
  pub picks : IsPicked plan (word_of order) 0 (beginning plan s c) place.journal
  -- the generator has given a number for each event
  pub words : generator ≡ behind_all (length place.journal) (generator_of order)
  -- whatever is open, worker 0 began
  pub own : OpenBy 0 place.machine

-- before the first event
pub begun : (plan : Plan) (order s c : ℕ) (place : Place) (generator : Lcg) → place.journal ≡ [] → IsHistory plan s c place.journal →
    place.machine ≡ after plan (beginning plan s c) place.journal → generator ≡ generator_of order → Driving plan order s c place generator
unfolding behind_all
begun plan order s c place generator none history state words = record {
  history = history;
  state = state;
  picks = subst (λ es. IsPicked plan (word_of order) 0 (beginning plan s c) es) (sym none) tt;
  words = words ∙ ap (λ (es : List Entry). behind_all (length es) (generator_of order)) (sym none);
  own = subst (λ m. OpenBy 0 m) (sym (state ∙ ap (λ es. after plan (beginning plan s c) es) none)) (begins_closed plan s c 0);
}

-- entries that numbers pick, and one more
pub picked_push : (plan : Plan) (word : ℕ → ℕ) (k : ℕ) (m : State) (es : List Entry) (e : Event) → IsPicked plan word k m es →
    running (after plan m es) ≡ true → e ≡ picked plan (after plan m es) (word (k + length es)) → IsPicked plan word k m (es ++ entry 0 e ∷ [])
picked_push plan word k m [] e is runs event =
    let here : k + 0 ≡ k = omega arith in
    (runs, ap (entry 0) (event ∙ ap (λ n. picked plan m (word n)) here), tt)
picked_push plan word k m (x ∷ es) e is runs event =
    let first = picked plan m (word k) in
    let same : after plan (next plan m x.worker x.event) es ≡ after plan (next plan m 0 first) es = ap (λ (y : Entry). after plan (next plan m y.worker y.event) es) is.1 in
    let later : k + suc (length es) ≡ k + 1 + length es = omega arith in
    let rest = picked_push plan word (k + 1) (next plan m 0 first) es e is.2 (subst (λ n. running n ≡ true) same runs)
    (event ∙ ap (λ n. picked plan n (word (k + suc (length es)))) same ∙ ap (λ n. picked plan (after plan (next plan m 0 first) es) (word n)) later) in
    (is.0, is.1, rest)

-- an event more
pub goes_on : (plan : Plan) (order s c : ℕ) (old new : Place) (generator : Lcg) (e : Event) → Driving plan order s c old generator →
    running old.machine ≡ true → can plan old.machine e ≡ true → e ≡ get_or (choices plan old.machine) (drawn generator % length (choices plan old.machine)) End →
    Goes plan old new e → IsHistory plan s c new.journal → new.machine ≡ after plan (beginning plan s c) new.journal →
    Driving plan order s c new (behind generator)
unfolding picked behind_all
goes_on plan order s c old new generator e d runs may event goes history state =
    let start = beginning plan s c in
    let word : drawn generator ≡ word_of order (length old.journal) = ap drawn d.words in
    let place : length old.journal ≡ 0 + length old.journal = omega arith in
    let as_picked : e ≡ picked plan (after plan start old.journal) (word_of order (0 + length old.journal)) =
    event ∙ ap (λ n. picked plan old.machine n) word ∙ ap (λ m. picked plan m (word_of order (length old.journal))) d.state
    ∙ ap (λ n. picked plan (after plan start old.journal) (word_of order n)) place in
    record {
      history = history;
      state = state;
      picks = subst (λ es. IsPicked plan (word_of order) 0 start es) (sym goes.journal)
          (picked_push plan (word_of order) 0 start old.journal e d.picks (subst (λ m. running m ≡ true) d.state runs) as_picked);
      words = ap behind d.words ∙ ap (λ n. behind_all n (generator_of order)) (later old.journal new.journal e goes.journal);
      own = subst (λ m. OpenBy 0 m) (sym goes.machine) (event_by old.machine 0 d.own plan e (can_facts plan old.machine e may));
    }
  where
    later : (es fs : List Entry) (e : Event) → fs ≡ es ++ entry 0 e ∷ [] → suc (length es) ≡ length fs
    later es fs e is = let longer = length_push es (entry 0 e) in let all = ap (λ (l : List Entry). length l) is in omega arith

-- a run that goes on no more
pub ended : (plan : Plan) (order s c : ℕ) (place : Place) (generator : Lcg) → Driving plan order s c place generator →
    running place.machine ≡ false → IsDriven plan order (beginning plan s c) place
ended plan order s c place generator d stands = record { stands = stands; ordered = inl d.picks }

-- a fault stops the run
faulted : (plan : Plan) (m : State) (status : ℕ) → running (next plan m 0 (Fault status)) ≡ false
faulted plan m status = by m.ended
  where
    by : (b : Bool) → cond b false (is_none (Some status)) ≡ false
    by true = refl
    by false = refl

-- a run that stopped with a fault
pub stopped : (plan : Plan) (order s c : ℕ) (old new : Place) (generator : Lcg) → Driving plan order s c old generator →
    Stops plan old new → IsDriven plan order (beginning plan s c) new
stopped plan order s c old new generator d stops = record {
  stands = subst (λ m. running m ≡ false) (sym stops.1.machine) (faulted plan old.machine stops.0);
  ordered = inr (old.journal, stops.0, d.picks, stops.1.journal);
}

-- what stands at a place of a list is among it
among_at : (es : List Event) (k : ℕ) (d : Event) → k < length es → Among (get_or es k d) es
among_at [] k d h = absurd (omega arith)
among_at (e ∷ es) zero d h = inl refl
among_at (e ∷ es) (suc k) d h = inr (among_at es k d (omega arith))

-- what is listed is no fault
listed_goes : (plan : Plan) (m : State) (e : Event) → IsListed plan m e → is_fault e ≡ false
listed_goes plan m (Start o i w) h = refl
listed_goes plan m (Write w) h = refl
listed_goes plan m (Finish o i w) h = refl
listed_goes plan m (Save o i w) h = refl
listed_goes plan m (Advance o i w) h = refl
listed_goes plan m (Commit w) h = refl
listed_goes plan m (Purge o i w) h = refl
listed_goes plan m (Kill l) h = refl
listed_goes plan m (Repartition l) h = refl
listed_goes plan m End h = refl
listed_goes plan m (Fault s) h = absurd h

-- a choice is no fault
pub choice_goes : ChoicesAreExact → (plan : Plan) (m : State) (k : ℕ) → k < length (choices plan m) → is_fault (get_or (choices plan m) k End) ≡ false
choice_goes exact plan m k there =
    let e = get_or (choices plan m) k End in
    listed_goes plan m e ((exact plan m e).0 (among_at (choices plan m) k End there)).1

-- what holds of a call that was done
pub done_of : {A B X : Type 0} (result : Result A B) → is_err result ≡ false → OnOk result X → X
done_of (Ok a) done h = h
done_of (Err b) done h = absurd (cc done)
