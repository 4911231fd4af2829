-- The events to choose from, in order, and the journal that a stream of numbers picks.
use Rattle.std.specs.Prelude.{◌≡◌, ℕ, zero, suc, ◌+◌, ◌%◌, ◌⊎◌, Bool, true, false, cond, List, [], ◌∷◌, ◌++◌, length, get_or, Option, None, Some, unwrap_or}
use Rattle.std.specs.List.{filter}
use Rattle.apx_history.specs.declared.Entry.{Entry}
use Rattle.apx_history.specs.declared.Event.{Event}
use Rattle.apx_history.specs.declared.Event.TheVariants.{Start, Write, Finish, Save, Advance, Commit, Purge, Kill, Repartition, End, Fault}
use Rattle.apx_history.specs.Plan.{Plan}
use Rattle.apx_history.specs.State.{State, parts, slot, open_window, running}
use Rattle.apx_history.specs.Enabled.{can, advance_to, least_rc, readers_rc}
use Rattle.apx_history.specs.Effects.{next}

-- something of each number below n, in order
unfoldable pub list_below : {X : Type 0} → ℕ → (ℕ → X) → List X
list_below zero f = []
list_below (suc n) f = list_below n f ++ f n ∷ []

-- the lists of each number below n, one behind the other
unfoldable pub lists_below : {X : Type 0} → ℕ → (ℕ → List X) → List X
lists_below zero f = []
lists_below (suc n) f = lists_below n f ++ f n

-- something of each partition, by operator and partition
abbrev pub list_slots : {X : Type 0} → State → (ℕ → ℕ → X) → List X
list_slots m f = lists_below (length m.ops) (λ o. list_below (parts m o) (f o))

-- the greatest window up to which the blocks of partition i of operator o aren't needed
unfoldable pub purge_to : Plan → State → ℕ → ℕ → ℕ
purge_to plan m o i = readers_rc plan m o (slot m o i).at

-- what could come next of each row of events, in order
abbrev pub starts : State → List Event
starts m = list_slots m (λ o i. Start o i ((slot m o i).at + 1))

-- the Write that could come next
abbrev pub writes : State → List Event
writes m = Write (m.stored + 1) ∷ []

-- each Finish that could come next
abbrev pub finishes : State → List Event
finishes m = list_slots m (λ o i. Finish o i (unwrap_or (open_window (slot m o i).opened) 0))

-- each Save that could come next
abbrev pub saves : State → List Event
saves m = list_slots m (λ o i. Save o i (slot m o i).at)

-- each Advance that could come next
abbrev pub advances : Plan → State → List Event
advances plan m = list_slots m (λ o i. Advance o i (advance_to plan m o i))

-- the Commit that could come next
abbrev pub commits : Plan → State → List Event
commits plan m = Commit (least_rc plan m) ∷ []

-- the greatest Purge of each partition
abbrev pub purges : Plan → State → List Event
purges plan m = list_slots m (λ o i. Purge o i (purge_to plan m o i))

-- an event of each line of the script
abbrev pub lines_met : State → (ℕ → Event) → List Event
lines_met m f = list_below (length m.left) f

-- The events to choose from: those that may come next, by the rows of events, then by operator and partition or by
-- line. Of the purges of a partition it has the greatest alone, and no fault.
unfoldable pub choices : Plan → State → List Event
choices plan m =
    filter (can plan m) (starts m) ++ filter (can plan m) (writes m) ++ filter (can plan m) (finishes m)
    ++ filter (can plan m) (saves m) ++ filter (can plan m) (advances plan m) ++ filter (can plan m) (commits plan m)
    ++ filter (can plan m) (purges plan m) ++ filter (can plan m) (lines_met m Kill)
    ++ filter (can plan m) (lines_met m Repartition) ++ filter (can plan m) (End ∷ [])

-- the list of choices has the event where it may come next: of the purges of a partition the greatest alone, no fault
abbrev pub IsListed : Plan → State → Event → Type 0
IsListed plan m (Purge o i w) = w ≡ purge_to plan m o i
IsListed plan m (Fault s) = ⊥
IsListed plan m e = Unit {0}

-- x stands in the list
abbrev pub Among : {X : Type 0} → X → List X → Type 0
Among x [] = ⊥
Among x (y ∷ ys) = (y ≡ x) ⊎ Among x ys

-- the choice that a number picks
unfoldable pub picked : Plan → State → ℕ → Event
picked plan m word = get_or (choices plan m) (word % length (choices plan m)) End

-- The entries are those that the numbers `word k`, `word (k + 1)` and so on pick from state m on. Worker 0 does all.
abbrev pub IsPicked : Plan → (ℕ → ℕ) → ℕ → State → List Entry → Type 0
IsPicked plan word k m [] = Unit {0}
IsPicked plan word k m (e ∷ es) =
    (running m ≡ true) × (e ≡ record { worker = 0; event = picked plan m (word k) })
    × IsPicked plan word (k + 1) (next plan m 0 (picked plan m (word k))) es
