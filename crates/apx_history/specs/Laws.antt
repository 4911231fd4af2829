-- The laws of histories.
use Rattle.std.specs.Prelude.{◌≡◌, ℕ, zero, suc, ◌+◌, ◌*◌, ◌<◌, ◌≤◌, Bool, true, false, cond, ◌&&◌, ◌==◌, List, [], ◌∷◌, ◌++◌, length, Option, None, Some}
use Rattle.apx_history.specs.declared.Entry.{Entry}
use Rattle.apx_history.specs.declared.Event.{Event}
use Rattle.apx_history.specs.declared.Event.TheVariants.{Start, Write, Finish, Save, Advance, Commit, Purge, Kill, Repartition, End, Fault}
use Rattle.apx_history.specs.Plan.{Plan, line, kills, last_checkpoint, most, boundary_at, number}
use Rattle.apx_history.specs.State.{State, oper, parts, slot, IsPart, is_left, running}
use Rattle.apx_history.specs.Enabled.{can}
use Rattle.apx_history.specs.Effects.{next}
use Rattle.apx_history.specs.Journals.{beginning, is_legal, after, times_met}
use Rattle.apx_history.specs.Choices.{choices, IsListed, Among}
use Rattle.apx_history.specs.Kept.{IsPlan, IsStart, Kept, IsNeeded}

-- a history: entries that may follow one another from a start of the plan
pub record IsHistory (plan : Plan) (s c : ℕ) (es : List Entry) : Type 0 where
  -- the plan is one of a job
  pub is : IsPlan plan
  -- a run may begin there
  pub start : IsStart plan s c
  -- each entry may come where it stands
  pub legal : is_legal plan (beginning plan s c) es ≡ true

-- the sum of n numbers
unfoldable pub sum_below : ℕ → (ℕ → ℕ) → ℕ
sum_below zero f = 0
sum_below (suc n) f = f n + sum_below n f

-- the greatest numbers of partitions of all operators, together
abbrev pub most_parts : Plan → ℕ
most_parts plan = sum_below (length plan.operators) (most plan)

-- how many entries a history has at most
unfoldable pub bound : Plan → ℕ
bound plan = (length plan.lines + 1) * (most_parts plan * (5 * plan.windows)) + 2 * plan.windows + length plan.lines + 1

-- What every state keeps holds at each start, and is kept by each event from any state that has it.
abbrev pub StartsKeep : Type 0
StartsKeep = (plan : Plan) (s c : ℕ) → IsPlan plan → IsStart plan s c → Kept plan (beginning plan s c)

-- Each event keeps it from any state that has it.
abbrev pub EventsKeep : Type 0
EventsKeep = (plan : Plan) (m : State) → IsPlan plan → Kept plan m →
    (worker : ℕ) (e : Event) → can plan m e ≡ true → Kept plan (next plan m worker e)

-- So it holds after every history.
abbrev pub HistoriesKeep : Type 0
HistoriesKeep = (plan : Plan) (s c : ℕ) (es : List Entry) → IsHistory plan s c es → Kept plan (after plan (beginning plan s c) es)

-- The choices are the events that may come next, but for faults and lesser purges.
abbrev pub ChoicesAreExact : Type 0
ChoicesAreExact =
    (plan : Plan) (m : State) (e : Event) → (Among e (choices plan m) → (can plan m e ≡ true) × IsListed plan m e)
    × (can plan m e ≡ true → IsListed plan m e → Among e (choices plan m))

-- While a run goes on there is a choice.
abbrev pub AlwaysGoesOn : Type 0
AlwaysGoesOn = (plan : Plan) (m : State) → IsPlan plan → Kept plan m → running m ≡ true → 0 < length (choices plan m)

-- No history is longer than the bound.
abbrev pub IsBounded : Type 0
IsBounded = (plan : Plan) (s c : ℕ) (es : List Entry) → IsHistory plan s c es → length es ≤ bound plan

-- What is there at the end: every window is stored, the last checkpoint is committed, and each line of the script was met
-- exactly once.
pub record IsAtEnd (plan : Plan) (m : State) (es : List Entry) : Type 0 where
  -- every window is stored
  pub stored : m.stored ≡ plan.windows
  -- the last checkpoint is committed
  pub committed : m.committed ≡ last_checkpoint plan plan.windows
  -- each line was met once
  pub once : (l : ℕ) → l < length plan.lines → times_met l es ≡ 1

-- So it is with each history that has ended.
abbrev pub EndsWell : Type 0
EndsWell = (plan : Plan) (s c : ℕ) (es : List Entry) → IsHistory plan s c es → (after plan (beginning plan s c) es).ended ≡ true →
    IsAtEnd plan (after plan (beginning plan s c) es) es

-- No block that a recovery window needs is purged: a window that may still be read is above the floor.
abbrev pub KeepsWhatIsNeeded : Type 0
KeepsWhatIsNeeded = (plan : Plan) (m : State) → Kept plan m → (o i w : ℕ) → IsPart m o i → IsNeeded plan m o i w → (slot m o i).floor < w

-- the event finishes or kills partition i of operator o
abbrev pub closes : Plan → ℕ → ℕ → Event → Bool
closes plan o i (Finish p j w) = p == o && j == i
closes plan o i (Kill l) = kills o i (line plan l)
closes plan o i e = false

-- one of the entries is the worker's, and finishes or kills partition i of operator o
abbrev pub closes_one : Plan → ℕ → ℕ → ℕ → List Entry → Bool
closes_one plan worker o i [] = false
closes_one plan worker o i (e ∷ es) = cond (e.worker == worker && closes plan o i e.event) true (closes_one plan worker o i es)

-- partition i of operator o has window w open, which the worker began, in the epoch with boundary b
pub record IsOpen (m : State) (o i w worker b : ℕ) : Type 0 where
  -- the partition is there
  pub part : IsPart m o i
  -- it has the window open, begun by the worker
  pub opened : (slot m o i).opened ≡ Some (w, worker)
  -- in this epoch
  pub boundary : (oper m o).boundary ≡ b

-- What a worker opened stays open for it until it finishes or kills the partition itself.
abbrev pub StaysOpen : Type 0
StaysOpen = (plan : Plan) (m : State) (es : List Entry) → is_legal plan m es ≡ true → (o i w worker b : ℕ) → IsOpen m o i w worker b →
    closes_one plan worker o i es ≡ false → IsOpen (after plan m es) o i w worker b

-- The window that a partition has open lies in the epoch of its operator's boundary, whose number of partitions is in force.
abbrev pub OpensInEpoch : Type 0
OpensInEpoch = (plan : Plan) (m : State) → IsPlan plan → Kept plan m → (o i w worker b : ℕ) → IsOpen m o i w worker b →
    (boundary_at plan o w ≡ b) × (parts m o ≡ number plan o (boundary_at plan o w))
