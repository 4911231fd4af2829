-- What a worker has open, by its own entries.
use Rattle.std.specs.Prelude.{◌≡◌, ℕ, Bool, true, false, cond, ◌&&◌, ◌==◌, List, [], ◌∷◌, Option, None, Some}
use Rattle.apx_history.specs.declared.Entry.{Entry}
use Rattle.apx_history.specs.declared.Event.{Event}
use Rattle.apx_history.specs.declared.Event.TheVariants.{Start, Write, Finish, Kill}
use Rattle.apx_history.specs.Plan.{Plan, line, kills}
use Rattle.apx_history.specs.State.{State, oper, slot}
use Rattle.apx_history.specs.Enabled.{can}
use Rattle.apx_history.specs.Journals.{beginning, owed, bears, after}
use Rattle.apx_history.specs.Laws.{IsHistory, IsOpen}
use Rattle.apx_machine.specs.Picked.{may_do}
use Rattle.apx_lock.specs.Logs.{entries_of}

-- a worker's own entries
abbrev pub own : ℕ → List Entry → List Entry
own worker es = entries_of (λ e. e.worker) worker es

-- the state of a run behind its entries
abbrev pub state_of : Plan → ℕ → ℕ → List Entry → State
state_of plan s c es = after plan (beginning plan s c) es

-- the window that is open for a worker, if any
abbrev pub open_for : ℕ → Option (ℕ × ℕ) → Option ℕ
open_for worker None = None
open_for worker (Some x) = cond (x.1 == worker) (Some x.0) None

-- what a worker has open of partition i of operator o behind an event of its own, where it had x open
abbrev pub open_after : Plan → ℕ → ℕ → Option ℕ → Event → Option ℕ
open_after plan o i x (Start p j w) = cond (p == o && j == i) (Some w) x
open_after plan o i x (Finish p j w) = cond (p == o && j == i) None x
open_after plan o i x (Kill l) = cond (kills o i (line plan l)) None x
open_after plan o i x e = x

-- what it has open behind so many entries of its own
abbrev pub open_behind : Plan → ℕ → ℕ → Option ℕ → List Entry → Option ℕ
open_behind plan o i x [] = x
open_behind plan o i x (e ∷ es) = open_behind plan o i (open_after plan o i x e.event) es

-- the window that a worker has open of partition i of operator o, by its own entries: the one that it began there last, where it
-- has neither finished nor killed the partition since
abbrev pub open_in : Plan → ℕ → ℕ → List Entry → Option ℕ
open_in plan o i es = open_behind plan o i None es

-- What a worker has open follows from its own entries, whatever the others added to the journal.
abbrev pub OwnTells : Type 0
OwnTells = (plan : Plan) (s c : ℕ) (es : List Entry) → IsHistory plan s c es → (worker o i : ℕ) →
    open_for worker (slot (state_of plan s c es) o i).opened ≡ open_in plan o i (own worker es)

-- Where its own entries say so, the partition is there and has the window open, in the epoch of its operator.
abbrev pub OpenStays : Type 0
OpenStays = (plan : Plan) (s c : ℕ) (es : List Entry) → IsHistory plan s c es → (worker o i w : ℕ) →
    open_in plan o i (own worker es) ≡ Some w → IsOpen (state_of plan s c es) o i w worker (oper (state_of plan s c es) o).boundary

-- the event writes or finishes window w of partition i of operator o, or kills the partition
abbrev pub Ends : Plan → ℕ → ℕ → ℕ → Event → Type 0
Ends plan o i w (Write v) = (o ≡ plan.sink) × (i ≡ 0) × (v ≡ w)
Ends plan o i w (Finish p j v) = (p ≡ o) × (j ≡ i) × (v ≡ w)
Ends plan o i w (Kill l) = kills o i (line plan l) ≡ true
Ends plan o i w e = ⊥

-- A worker that claims a window which it has open can do nothing but write it, finish it, or kill its partition.
abbrev pub ClaimEnds : Type 0
ClaimEnds = (plan : Plan) (m : State) (o i w worker b : ℕ) → IsOpen m o i w worker b → (e : Event) → can plan m e ≡ true →
    may_do plan m worker (Some (o, i)) e ≡ true → Ends plan o i w e

-- the event writes or finishes a window
abbrev pub ends_window : Event → Bool
ends_window (Write w) = true
ends_window (Finish o i w) = true
ends_window e = false

-- A worker with nothing open can write and finish nothing.
abbrev pub FreeEndsNone : Type 0
FreeEndsNone = (plan : Plan) (m : State) (worker : ℕ) → ((o i : ℕ) → open_for worker (slot m o i).opened ≡ None) → (e : Event) →
    can plan m e ≡ true → bears (owed plan m e) worker ≡ true → ends_window e ≡ false
