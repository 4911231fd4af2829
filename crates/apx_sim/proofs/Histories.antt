-- What a history of a run has, from the laws of histories.
use Rattle.std.proofs.Common.{◌≡◌, ℕ, ◌<◌, Bool, true, false, cond, List, [], ◌∷◌, ◌++◌, Option, None, Some, is_none, refl, sym, ap, subst, ◌∙◌}
use Rattle.apx_history.specs.declared.Entry.{Entry}
use Rattle.apx_history.specs.declared.Event.{Event}
use Rattle.apx_history.specs.declared.Event.TheVariants.{Start, Write, Finish, Save, Advance, Commit, Purge, Kill, Repartition, End, Fault}
use Rattle.apx_history.specs.Plan.{Plan}
use Rattle.apx_history.specs.State.{State, slot, IsPart, running, put, map_slots}
use Rattle.apx_history.specs.Effects.{meet, split, next}
use Rattle.apx_history.specs.Conditions.{CanEnd}
use Rattle.apx_history.specs.Journals.{beginning, is_legal, after}
use Rattle.apx_history.specs.Kept.{IsNeeded}
use Rattle.apx_history.specs.Laws.{IsHistory}
use Rattle.apx_history.proofs.Legal.{can_runs, fits_parts, legal-append, kept_start, kept_after}
use Rattle.apx_history.proofs.Held.{keeps-needed}
use Rattle.apx_history.proofs.Once.{ended_by}
use Rattle.apx_course.specs.Course.{entry}

-- ---- what is needed

-- behind each front of a history what is needed is kept
pub front_keeps : (plan : Plan) (s c : ℕ) (es : List Entry) → IsHistory plan s c es → (front rest : List Entry) → es ≡ front ++ rest →
    (o i w : ℕ) → IsPart (after plan (beginning plan s c) front) o i → IsNeeded plan (after plan (beginning plan s c) front) o i w →
    (slot (after plan (beginning plan s c) front) o i).floor < w
front_keeps plan s c es history front rest is o i w part needed =
    let legal = legal-append plan (beginning plan s c) front rest (subst (λ (fs : List Entry). is_legal plan (beginning plan s c) fs ≡ true) is history.legal) in
    keeps-needed plan (after plan (beginning plan s c) front)
    (kept_after plan history.is (beginning plan s c) (kept_start plan s c history.is history.start) front legal.0) o i w part needed

-- ---- the last entry

differ : {b : Bool} → b ≡ false → b ≡ true → ⊥
differ h g = let e : false ≡ true = sym h ∙ g in cc

-- a run that goes on hasn't ended
unended : (m : State) → running m ≡ true → m.ended ≡ false
unended m h = by m.ended h
  where
    by : (b : Bool) → cond b false (is_none m.fault) ≡ true → b ≡ false
    by true h = absurd (let e : false ≡ true = h in cc)
    by false h = refl

-- the event that ends a run is End
end_ends : (plan : Plan) (m : State) (u : ℕ) (e : Event) → m.ended ≡ false → (next plan m u e).ended ≡ true → e ≡ End
unfolding put map_slots meet split
end_ends plan m u (Start o i w) h g = absurd (differ h g)
end_ends plan m u (Write w) h g = absurd (differ h g)
end_ends plan m u (Finish o i w) h g = absurd (differ h g)
end_ends plan m u (Save o i w) h g = absurd (differ h g)
end_ends plan m u (Advance o i w) h g = absurd (differ h g)
end_ends plan m u (Commit w) h g = absurd (differ h g)
end_ends plan m u (Purge o i w) h g = absurd (differ h g)
end_ends plan m u (Kill l) h g = absurd (differ h g)
end_ends plan m u (Repartition l) h g = absurd (differ h g)
end_ends plan m u End h g = refl
end_ends plan m u (Fault s) h g = absurd (differ h g)

-- how a history ended: by its last entry, which is End, where the run might end
pub record Ending (plan : Plan) (m : State) (es : List Entry) : Type 0 where
  -- what happened before
  pub front : List Entry
  -- who ended it
  pub worker : ℕ
  -- the last entry
  pub last : es ≡ front ++ entry worker End ∷ []
  -- the run might end
  pub can : CanEnd plan (after plan m front)
  -- the state that is left
  pub over : after plan m es ≡ record (after plan m front) { ended = true }

pub ends_last : (plan : Plan) (m : State) (es : List Entry) → is_legal plan m es ≡ true → m.ended ≡ false → (after plan m es).ended ≡ true → Ending plan m es
ends_last plan m [] legal on over = absurd (differ on over)
ends_last plan m (e ∷ []) legal on over =
    let p = fits_parts plan m e [] legal in
    let end = ended_by plan m e.worker 0 e.event p.0 over in
    record {
      front = [];
      worker = e.worker;
      last = ap (λ (x : Event). entry e.worker x ∷ []) (end_ends plan m e.worker e.event on over);
      can = end.0;
      over = end.1;
    }
ends_last plan m (e ∷ f ∷ es) legal on over =
    let p = fits_parts plan m e (f ∷ es) legal in
    let q = fits_parts plan (next plan m e.worker e.event) f es p.2 in
    let more = ends_last plan (next plan m e.worker e.event) (f ∷ es) p.2 (unended (next plan m e.worker e.event) (can_runs plan (next plan m e.worker e.event) f.event q.0)) over in
    record {
      front = e ∷ more.front;
      worker = more.worker;
      last = ap (λ (xs : List Entry). e ∷ xs) more.last;
      can = more.can;
      over = more.over;
    }

begins_unended : (plan : Plan) (s c : ℕ) → (beginning plan s c).ended ≡ false
unfolding beginning
begins_unended plan s c = refl

-- without a status a run that goes on no more has ended
pub over_by : (m : State) → running m ≡ false → m.fault ≡ None → m.ended ≡ true
over_by m stands none = by m.ended m.fault none stands
  where
    by : (b : Bool) (f : Option ℕ) → f ≡ None → cond b false (is_none f) ≡ false → b ≡ true
    by true f e h = refl
    by false None e h = absurd (let g : true ≡ false = h in cc)
    by false (Some s) e h = absurd (cc e)

pub history_ends : (plan : Plan) (s c : ℕ) (es : List Entry) → IsHistory plan s c es → (after plan (beginning plan s c) es).ended ≡ true →
    Ending plan (beginning plan s c) es
history_ends plan s c es history over = ends_last plan (beginning plan s c) es history.legal (begins_unended plan s c) over
