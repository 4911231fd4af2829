-- A course with one entry more.
use Rattle.std.proofs.Common.{◌≡◌, ℕ, ◌+◌, ◌<◌, ◌≤◌, Bool, true, false, cond, List, [], ◌∷◌, ◌++◌, length, Option, None, Some, is_none, refl, sym, ap, subst, ◌∙◌, arith}
use Rattle.std.proofs.lemmas.List.{length_push}
use Rattle.apx_history.specs.declared.Entry.{Entry}
use Rattle.apx_history.specs.declared.Event.{Event}
use Rattle.apx_history.specs.declared.Event.TheVariants.{Start, Write, Finish, Save, Advance, Commit, Purge, Kill, Repartition, End, Fault}
use Rattle.apx_history.specs.Plan.{Plan}
use Rattle.apx_history.specs.State.{State, running, put, map_slots}
use Rattle.apx_history.specs.Enabled.{can}
use Rattle.apx_history.specs.Effects.{next, meet, split}
use Rattle.apx_history.specs.Journals.{beginning, owed, bears, is_legal, after}
use Rattle.apx_history.specs.Kept.{IsPlan, IsStart}
use Rattle.apx_history.specs.Laws.{IsHistory}
use Rattle.apx_history.proofs.Conditions.{all_true}
use Rattle.apx_history.proofs.Legal.{append-legal, after-append}
use Rattle.apx_course.specs.declared.faults.CoreFault.{CoreFault}
use Rattle.apx_course.specs.Faults.{status, status_of, is_fault}
use Rattle.apx_course.specs.Run.{Run}
use Rattle.apx_course.specs.Course.{Standing, entry, Runs}
use Rattle.apx_course.proofs.Statuses.{status_is}

-- an event that is no fault leaves the status
pub fault_stays : (plan : Plan) (m : State) (u : ℕ) (e : Event) → is_fault e ≡ false → (next plan m u e).fault ≡ m.fault
unfolding put map_slots meet split
fault_stays plan m u (Start o i w) h = refl
fault_stays plan m u (Write w) h = refl
fault_stays plan m u (Finish o i w) h = refl
fault_stays plan m u (Save o i w) h = refl
fault_stays plan m u (Advance o i w) h = refl
fault_stays plan m u (Commit w) h = refl
fault_stays plan m u (Purge o i w) h = refl
fault_stays plan m u (Kill l) h = refl
fault_stays plan m u (Repartition l) h = refl
fault_stays plan m u End h = refl
fault_stays plan m u (Fault s) h = absurd (cc h)

-- a run that goes on has no status
pub no_status : (m : State) → running m ≡ true → m.fault ≡ None
no_status m h = by m.ended m.fault h
  where
    by : (b : Bool) (f : Option ℕ) → cond b false (is_none f) ≡ true → f ≡ None
    by true f h = absurd (cc h)
    by false None h = refl
    by false (Some s) h = absurd (cc h)

-- a run with a status is over
pub stopped : (m : State) (s : ℕ) → m.fault ≡ Some s → running m ≡ true → ⊥
stopped m s e h = cc (sym e ∙ no_status m h)

-- a run without a status keeps no fault
pub no_fault : {F : Type 0} (f : Option (CoreFault F)) → status_of f ≡ None → f ≡ None
no_fault None h = refl
no_fault (Some f) h = absurd (cc h)

-- a history with one entry more
pub history_push : (plan : Plan) (s c : ℕ) (es : List Entry) (u : ℕ) (e : Event) → IsHistory plan s c es
    → can plan (after plan (beginning plan s c) es) e ≡ true → bears (owed plan (after plan (beginning plan s c) es) e) u ≡ true
    → IsHistory plan s c (es ++ entry u e ∷ [])
history_push plan s c es u e history can bears = record {
  is = history.is;
  start = history.start;
  legal = append-legal plan (beginning plan s c) es (entry u e ∷ []) history.legal (all_true (all_true can bears) refl);
}

-- an event, and its entry
pub runs_on : {F : Type 0} (run : Run) (c n : Standing F) (u : ℕ) (e : Event) → Runs run c
    → can run.plan c.machine e ≡ true → bears (owed run.plan c.machine e) u ≡ true
    → n.machine ≡ next run.plan c.machine u e → n.journal ≡ c.journal ++ entry u e ∷ []
    → (running n.machine ≡ true → length n.journal < n.places) → n.machine.fault ≡ status_of n.fault
    → Runs run n
runs_on run c n u e runs can_e bears_e machine journal room same = record {
  history = subst (λ (es : List Entry). IsHistory run.plan run.stored run.from es) (sym journal)
      (history_push run.plan run.stored run.from c.journal u e runs.history
      (subst (λ (m : State). can run.plan m e ≡ true) runs.now can_e)
      (subst (λ (m : State). bears (owed run.plan m e) u ≡ true) runs.now bears_e));
  now = machine ∙ (ap (λ (m : State). next run.plan m u e) runs.now
      ∙ (sym (after-append run.plan (beginning run.plan run.stored run.from) c.journal (entry u e ∷ []))
      ∙ ap (λ (es : List Entry). after run.plan (beginning run.plan run.stored run.from) es) (sym journal)));
  room = room;
  same = same;
}

-- an event that is no fault, in a place that was taken for it
pub runs_add : {F : Type 0} (run : Run) (c n : Standing F) (u : ℕ) (e : Event) → Runs run c
    → can run.plan c.machine e ≡ true → bears (owed run.plan c.machine e) u ≡ true → is_fault e ≡ false → length c.journal + 2 ≤ c.places
    → n.machine ≡ next run.plan c.machine u e → n.journal ≡ c.journal ++ entry u e ∷ [] → n.places ≡ c.places → n.fault ≡ c.fault
    → Runs run n
runs_add run c n u e runs can_e bears_e goes place machine journal places fault =
    runs_on run c n u e runs can_e bears_e machine journal
    (λ _. let a = ap length journal in let b = length_push c.journal (entry u e) in omega arith)
    (ap (λ (m : State). m.fault) machine ∙ (fault_stays run.plan c.machine u e goes ∙ (runs.same ∙ ap status_of (sym fault))))

-- a fault, in the place that is kept for it
pub runs_stop : {F : Type 0} (run : Run) (c n : Standing F) (u : ℕ) (f : CoreFault F) → Runs run c
    → can run.plan c.machine (Fault (status f)) ≡ true
    → n.machine ≡ next run.plan c.machine u (Fault (status f)) → n.journal ≡ c.journal ++ entry u (Fault (status f)) ∷ [] → n.fault ≡ Some f
    → Runs run n
runs_stop run c n u f runs can_f machine journal fault =
    runs_on run c n u (Fault (status f)) runs can_f refl machine journal
    (λ runs. absurd (stopped n.machine (status f) (ap (λ (m : State). m.fault) machine) runs))
    (ap (λ (m : State). m.fault) machine ∙ ap status_of (sym fault))

-- a run that goes on may stop with each fault
pub fault_may : {F : Type 0} (plan : Plan) (m : State) (f : CoreFault F) → running m ≡ true → can plan m (Fault (status f)) ≡ true
fault_may plan m f h = all_true h (status_is f)

-- a course in which nothing has happened
pub runs_new : {F : Type 0} (run : Run) (c : Standing F) → IsPlan run.plan → IsStart run.plan run.stored run.from
    → c.machine ≡ beginning run.plan run.stored run.from → c.journal ≡ [] → 0 < c.places → c.fault ≡ None → Runs run c
unfolding beginning
runs_new run c is start machine journal places fault = record {
  history = record {
    is = is;
    start = start;
    legal = subst (λ (es : List Entry). is_legal run.plan (beginning run.plan run.stored run.from) es ≡ true) (sym journal) refl;
  };
  now = machine ∙ ap (λ (es : List Entry). after run.plan (beginning run.plan run.stored run.from) es) (sym journal);
  room = λ _. let a = ap length journal in omega (arith, a, places);
  same = ap (λ (m : State). m.fault) machine ∙ ap status_of (sym fault);
}
