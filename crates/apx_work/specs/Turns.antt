-- What a worker does in a turn.
use Rattle.std.specs.Prelude.{◌≡◌, ℕ, ◌⊎◌, Bool, true, false, List, [], ◌∷◌, ◌++◌}
use Rattle.apx_history.specs.declared.Entry.{Entry}
use Rattle.apx_history.specs.declared.Event.{Event}
use Rattle.apx_history.specs.declared.Event.TheVariants.{Save, Advance, Commit, Purge, Repartition, End, Fault}
use Rattle.apx_course.specs.Course.{entry}

-- the event has to do with no claim, kills nothing, and is no fault
abbrev pub goes_alone : Event → Bool
goes_alone (Save o i w) = true
goes_alone (Advance o i w) = true
goes_alone (Commit w) = true
goes_alone (Purge o i w) = true
goes_alone (Repartition l) = true
goes_alone End = true
goes_alone e = false

-- the event ends the run
abbrev pub ends_run : Event → Bool
ends_run End = true
ends_run (Fault s) = true
ends_run e = false

-- the run is over: the last entry is its end, or a fault
abbrev pub IsOver : List Entry → Type 0
IsOver es = (front : List Entry) × (last : Entry) × (es ≡ front ++ last ∷ []) × (ends_run last.event ≡ true)

-- a worker did an event: there is its entry more
abbrev pub Adds : ℕ → Event → List Entry → List Entry → Type 0
Adds worker e old new = new ≡ old ++ entry worker e ∷ []

-- the run stopped with some status
abbrev pub Stops : ℕ → List Entry → List Entry → Type 0
Stops worker old new = (status : ℕ) × Adds worker (Fault status) old new

-- a worker did an event, or nothing
abbrev pub Changes : ℕ → List Entry → List Entry → Type 0
Changes worker old new = (new ≡ old) ⊎ ((e : Event) × Adds worker e old new)
