-- What a whole run promises, from what a core knows of itself.
use Rattle.std.proofs.Common.{◌≡◌, ℕ, Bool, true, false, List, Option, None, sym, ap, subst, ◌∙◌, arith}
use Rattle.std.proofs.lemmas.List.{length-map}
use Rattle.apx_tuple.specs.declared.tuple.Tuple.{Tuple}
use Rattle.apx_history.specs.declared.Entry.{Entry}
use Rattle.apx_history.specs.declared.Event.TheVariants.{End}
use Rattle.apx_history.specs.Plan.{Plan}
use Rattle.apx_history.specs.State.{State, running}
use Rattle.apx_history.specs.Journals.{beginning, after}
use Rattle.apx_history.specs.Laws.{IsHistory}
use Rattle.apx_history.proofs.Once.{ends-well}
use Rattle.apx_pass.specs.Pass.{windows}
use Rattle.apx_pass.specs.Job.{Job}
use Rattle.apx_job.specs.Job.{command_in, plan_of}
use Rattle.apx_course.specs.declared.faults.CoreFault.{CoreFault}
use Rattle.apx_course.specs.Faults.{status_of}
use Rattle.apx_course.specs.Run.{Run}
use Rattle.apx_promise.specs.Histories.{EndsWith}
use Rattle.apx_sim.specs.Headline.{left_by, KeepsNeeded, EndsWhole, IsStopped, LosesNoWindow}
use Rattle.apx_cause.specs.Steps.{Steps}
use Rattle.apx_stores.specs.Crashes.{IsFirst}
use Rattle.apx_sim.proofs.Histories.{front_keeps, over_by, history_ends}

-- ---- over the job alone

module _ (run : Run) (planned : run.plan ≡ plan_of run.job) (from : 0 ≡ run.from) (es : List Entry) where
  pub history_of : IsHistory run.plan run.stored run.from es → IsHistory (plan_of run.job) run.stored 0 es
  history_of h = subst (λ (c : ℕ). IsHistory (plan_of run.job) run.stored c es) (sym from) (subst (λ (p : Plan). IsHistory p run.stored run.from es) planned h)

  pub left_is : after run.plan (beginning run.plan run.stored run.from) es ≡ left_by run.job run.stored es
  left_is = ap (λ (p : Plan). after p (beginning p run.stored run.from) es) planned
      ∙ ap (λ (c : ℕ). after (plan_of run.job) (beginning (plan_of run.job) run.stored c) es) (sym from)

-- ---- what is needed, and the end

module _ (job : Job) (s : ℕ) (es : List Entry) (history : IsHistory (plan_of job) s 0 es) where
  pub keeps_needed : KeepsNeeded job s es
  keeps_needed = record { kept = front_keeps (plan_of job) s 0 es history }

  module _ {F : Type 0} (fault : Option (CoreFault F)) (stands : running (left_by job s es) ≡ false) (same : (left_by job s es).fault ≡ status_of fault) where
    over : fault ≡ None → (left_by job s es).ended ≡ true
    over none = over_by (left_by job s es) stands (same ∙ ap (λ (f : Option (CoreFault F)). status_of f) none)

    pub ends_with : fault ≡ None → EndsWith End es
    ends_with none = (let end = history_ends (plan_of job) s 0 es history (over none) in record { front = end.front; worker = end.worker; is = end.last })

    pub ends_whole : EndsWhole job s es fault
    ends_whole = record {
      last = λ none. (let end = history_ends (plan_of job) s 0 es history (over none) in (end.front, end.worker, end.last));
      stored = λ none. (ends-well (plan_of job) s 0 es history (over none)).stored;
      committed = λ none. (ends-well (plan_of job) s 0 es history (over none)).committed;
      once = λ none l there. (ends-well (plan_of job) s 0 es history (over none)).once l (let e = length-map job.script (command_in job.flow.nodes) in omega arith);
    }

-- ---- causes

-- a stop, of what is equal
pub stopped_as : (F : Type 0) (job : Job) (told vt st : Bool) (s : ℕ) (es es' : List Entry) (fault fault' : Option (CoreFault F)) (k v p k' v' p' l w q l' w' q' : ℕ) →
    IsStopped job s es fault told vt st (record { keeper = k; vault = v; spools = p }) (record { keeper = l; vault = w; spools = q }) →
    es ≡ es' → fault ≡ fault' → k ≡ k' → v ≡ v' → p ≡ p' → l ≡ l' → w ≡ w' → q ≡ q' →
    IsStopped job s es' fault' told vt st (record { keeper = k'; vault = v'; spools = p' }) (record { keeper = l'; vault = w'; spools = q' })
stopped_as F job told vt st s es es' fault fault' k v p k' v' p' l w q l' w' q' h a b c d e f x y =
    subst (λ (fs : List Entry). IsStopped job s fs fault' told vt st (record { keeper = k'; vault = v'; spools = p' }) (record { keeper = l'; vault = w'; spools = q' })) a
    (subst (λ (why : Option (CoreFault F)). IsStopped job s es why told vt st (record { keeper = k'; vault = v'; spools = p' }) (record { keeper = l'; vault = w'; spools = q' })) b
    (subst (λ (n : ℕ). IsStopped job s es fault told vt st (record { keeper = n; vault = v'; spools = p' }) (record { keeper = l'; vault = w'; spools = q' })) c
    (subst (λ (n : ℕ). IsStopped job s es fault told vt st (record { keeper = k; vault = n; spools = p' }) (record { keeper = l'; vault = w'; spools = q' })) d
    (subst (λ (n : ℕ). IsStopped job s es fault told vt st (record { keeper = k; vault = v; spools = n }) (record { keeper = l'; vault = w'; spools = q' })) e
    (subst (λ (n : ℕ). IsStopped job s es fault told vt st (record { keeper = k; vault = v; spools = p }) (record { keeper = n; vault = w'; spools = q' })) f
    (subst (λ (n : ℕ). IsStopped job s es fault told vt st (record { keeper = k; vault = v; spools = p }) (record { keeper = l; vault = n; spools = q' })) x
    (subst (λ (n : ℕ). IsStopped job s es fault told vt st (record { keeper = k; vault = v; spools = p }) (record { keeper = l; vault = w; spools = n })) y h)))))))

-- ---- crashes

-- what a crash leaves of the sink's store, of what is equal
pub loses_none : {K : Type 0} (run : Run) → run.plan ≡ plan_of run.job → (time : K → ℕ) (left : K → ℕ → List (List Tuple) → Type 0) (old old' new new' : K) (s : ℕ) (m : State) (es es' : List Entry)
    → old ≡ old' → new ≡ new' → s ≡ run.stored → es ≡ es' → m ≡ left_by run.job run.stored es
    → Steps (time old) (time new) (left old) (left new) (IsFirst run.job.flow s run.plan.windows)
    → ((rows : List (List Tuple)) → left new (time new) rows → IsFirst run.job.flow m.stored run.plan.windows rows)
    → LosesNoWindow run.job run.stored es' time left old' new'
loses_none run planned time left old old' new new' s m es es' begins ends first same now steps behind =
    let most : run.plan.windows ≡ windows run.job.flow = ap (λ (p : Plan). p.windows) planned in
    subst (λ (fs : List Entry). LosesNoWindow run.job run.stored fs time left old' new') same
    (subst (λ k. LosesNoWindow run.job run.stored es time left k new') begins
    (subst (λ k. LosesNoWindow run.job run.stored es time left old k) ends
    (record {
      within = subst (λ (n : ℕ). Steps (time old) (time new) (left old) (left new) (IsFirst run.job.flow n (windows run.job.flow))) first
          (subst (λ (n : ℕ). Steps (time old) (time new) (left old) (left new) (IsFirst run.job.flow s n)) most steps);
      behind = subst (λ (n : State). (rows : List (List Tuple)) → left new (time new) rows → IsFirst run.job.flow n.stored (windows run.job.flow) rows) now
          (subst (λ (n : ℕ). (rows : List (List Tuple)) → left new (time new) rows → IsFirst run.job.flow m.stored n rows) most behind);
    })))
