-- What contracts see of a course, and what is so of each.
use Rattle.std.specs.Prelude.{◌≡◌, ℕ, ◌<◌, true, List, ◌∷◌, ◌++◌, [], length, Option, Some}
use Rattle.apx_history.specs.declared.Entry.{Entry}
use Rattle.apx_history.specs.declared.Event.{Event}
use Rattle.apx_history.specs.declared.Event.TheVariants.{Fault}
use Rattle.apx_history.specs.Plan.{Plan}
use Rattle.apx_history.specs.State.{State, running}
use Rattle.apx_history.specs.Effects.{next}
use Rattle.apx_history.specs.Journals.{beginning, after}
use Rattle.apx_history.specs.Laws.{IsHistory}
use Rattle.apx_course.specs.declared.faults.CoreFault.{CoreFault}
use Rattle.apx_course.specs.Faults.{status, status_of}
use Rattle.apx_course.specs.Run.{Run}

-- where a run stands
pub record Standing (F : Type 0) : Type 0 where
  -- the state of its machine
  pub machine : State
  -- what happened so far
  pub journal : List Entry
  -- for how many entries there is room
  pub places : ℕ
  -- why it stopped, if it did
  pub fault : Option (CoreFault F)

-- the entry of an event that a worker did
abbrev pub entry : ℕ → Event → Entry
entry worker e = record { worker = worker; event = e }

-- what is so of each course
pub record Runs {F : Type 0} (run : Run) (c : Standing F) : Type 0 where
  -- the journal is a history of the run
  pub history : IsHistory run.plan run.stored run.from c.journal
  -- the machine is in the state after it
  pub now : c.machine ≡ after run.plan (beginning run.plan run.stored run.from) c.journal
  -- while the run goes on there is room for one more entry, which may be a fault
  pub room : running c.machine ≡ true → length c.journal < c.places
  -- the status that the machine stopped with is that of the fault
  pub same : c.machine.fault ≡ status_of c.fault

-- a worker did an event: the machine is in the state that it leaves, and the journal has its entry
pub record Did {F : Type 0} (plan : Plan) (old new : Standing F) (worker : ℕ) (e : Event) : Type 0 where
  -- the state that the event leaves
  pub machine : new.machine ≡ next plan old.machine worker e
  -- one entry more
  pub journal : new.journal ≡ old.journal ++ entry worker e ∷ []
  -- the run hasn't stopped
  pub fault : new.fault ≡ old.fault

-- the run stopped with a fault: the machine stopped with its status, which is the last entry, and the fault is kept
pub record StopsWith {F : Type 0} (plan : Plan) (old new : Standing F) (worker : ℕ) (why : CoreFault F) : Type 0 where
  -- the machine stopped with the status
  pub machine : new.machine ≡ next plan old.machine worker (Fault (status why))
  -- one entry more
  pub journal : new.journal ≡ old.journal ++ entry worker (Fault (status why)) ∷ []
  -- the fault is kept
  pub fault : new.fault ≡ Some why

-- the run stopped with some fault
abbrev pub Stops : {F : Type 0} → Plan → Standing F → Standing F → ℕ → Type 0
Stops {F} plan old new worker = (why : CoreFault F) × StopsWith plan old new worker why
