-- What is proved of every history, for every plan of a job and every start: the laws.
use Rattle.std.specs.Prelude.{◌≡◌, ℕ, ◌<◌, ◌≤◌, ◌⊎◌, Bool, true, List, ◌++◌, Contains, Option, map}
use Rattle.std.specs.List.Sorted.{IsStrictlySortedBy}
use Rattle.apx_device.specs.declared.vault.SaveId.{SaveId}
use Rattle.apx_device.specs.Vault as vault
use Rattle.apx_history.specs.declared.Entry.{Entry}
use Rattle.apx_history.specs.declared.Event.{Event}
use Rattle.apx_history.specs.declared.Event.TheVariants.{Save, Commit, Repartition, End}
use Rattle.apx_history.specs.Plan.{Plan, line, count_or}
use Rattle.apx_history.specs.State.{State, oper}
use Rattle.apx_history.specs.Enabled.{can}
use Rattle.apx_history.specs.Effects.{next}
use Rattle.apx_history.specs.Journals.{beginning}
use Rattle.apx_history.specs.Choices.{IsPicked}
use Rattle.apx_history.specs.Kept.{IsPlan, IsStart, Kept}
use Rattle.apx_history.specs.Laws.{IsHistory}
use Rattle.apx_promise.specs.Histories.{state_after, StoresInOrder, FindsWhatItReads, EndsWhatItBegan, GoesOn, EndsWith, IsDone}
use Rattle.apx_promise.specs.Orders.{IsPickedToEnd, AllAreBy}
use Rattle.apx_promise.specs.Contents.{HasSaved, HasNoMore, ChangesBy, leaves, with_parts, HasLastSaves}
use Rattle.apx_promise.specs.Checkpoints.{IsLastSave, last_saves, MustBeSaved, MayBeSaved, IsMadeBy}

-- the windows are stored one after the other, each once
abbrev pub AllStoreInOrder : Type 0
AllStoreInOrder = (plan : Plan) (s c : ℕ) (es : List Entry) → IsHistory plan s c es → StoresInOrder plan s c es

-- whatever is read is there
abbrev pub AllFindWhatTheyRead : Type 0
AllFindWhatTheyRead = (plan : Plan) (s c : ℕ) (es : List Entry) → IsHistory plan s c es → FindsWhatItReads plan s c es

-- whoever ends a window has begun it
abbrev pub AllEndWhatTheyBegan : Type 0
AllEndWhatTheyBegan = (plan : Plan) (s c : ℕ) (es : List Entry) → IsHistory plan s c es → EndsWhatItBegan plan s c es

-- a run that hasn't stopped goes on
abbrev pub AllGoOn : Type 0
AllGoOn = (plan : Plan) (s c : ℕ) (es : List Entry) → IsHistory plan s c es → GoesOn plan s c es

-- a run that has ended has done all
abbrev pub EndedAreDone : Type 0
EndedAreDone = (plan : Plan) (s c : ℕ) (es : List Entry) → IsHistory plan s c es → EndsWith End es → IsDone plan s c es

-- What numbers pick is a history of worker 0.
abbrev pub PicksAreHistories : Type 0
PicksAreHistories = (plan : Plan) (word : ℕ → ℕ) (s c : ℕ) (es : List Entry) → IsPlan plan → IsStart plan s c →
    IsPicked plan word 0 (beginning plan s c) es → IsHistory plan s c es × AllAreBy 0 es

-- Numbers pick a history that ends.
abbrev pub SomeIsPicked : Type 0
SomeIsPicked = (plan : Plan) (word : ℕ → ℕ) (s c : ℕ) → IsPlan plan → IsStart plan s c →
    (es : List Entry) × IsPickedToEnd plan word s c es

-- It begins with whatever the numbers pick.
abbrev pub PicksAreFronts : Type 0
PicksAreFronts = (plan : Plan) (word : ℕ → ℕ) (s c : ℕ) (es front : List Entry) → IsPickedToEnd plan word s c es →
    IsPicked plan word 0 (beginning plan s c) front → (rest : List Entry) × (es ≡ front ++ rest)

-- And it is the only one.
abbrev pub OneIsPicked : Type 0
OneIsPicked = (plan : Plan) (word : ℕ → ℕ) (s c : ℕ) (es fs : List Entry) →
    IsPickedToEnd plan word s c es → IsPickedToEnd plan word s c fs → es ≡ fs

-- The list of the last checkpoints has those and no other.
abbrev pub LastSavesAreExact : Type 0
LastSavesAreExact = (plan : Plan) (id : SaveId) → IsPlan plan →
    (Contains (last_saves plan) id → IsLastSave plan id) × (IsLastSave plan id → Contains (last_saves plan) id)

-- The list is in the order of its ids, each once.
abbrev pub LastSavesAscend : Type 0
LastSavesAscend = (plan : Plan) → IsStrictlySortedBy vault.save_order (last_saves plan)

-- When a run has ended, the last checkpoints are what must be there, and all that may be there.
abbrev pub LastAreSaved : Type 0
LastAreSaved = (plan : Plan) (s c : ℕ) (es : List Entry) → IsHistory plan s c es → EndsWith End es → (id : SaveId) →
    (IsLastSave plan id → MustBeSaved plan (state_after plan s c es) id)
    × (MayBeSaved plan (state_after plan s c es).committed id → IsLastSave plan id)

-- What must be there behind an event was there before it, or the event makes it; and it isn't below what is committed.
abbrev pub SavesAreMade : Type 0
SavesAreMade = (plan : Plan) (m : State) (worker : ℕ) (e : Event) → IsPlan plan → Kept plan m → can plan m e ≡ true → (id : SaveId) →
    MustBeSaved plan (next plan m worker e) id →
    (MustBeSaved plan m id ⊎ IsMadeBy plan m e id) × ((next plan m worker e).committed ≤ id.window)

-- What an event makes may be there.
abbrev pub MadeMayBe : Type 0
MadeMayBe = (plan : Plan) (m : State) (worker : ℕ) (e : Event) → IsPlan plan → Kept plan m → can plan m e ≡ true → (id : SaveId) →
    IsMadeBy plan m e id → MayBeSaved plan (next plan m worker e).committed id

-- At first nothing must be there but what a run begins with.
abbrev pub NoneAtFirst : Type 0
NoneAtFirst = (plan : Plan) (s c : ℕ) (id : SaveId) → MustBeSaved plan (beginning plan s c) id → id.window ≡ c

-- what passes a test is right
abbrev pub Passes : (SaveId → List ℕ → Bool) → SaveId → List ℕ → Type 0
Passes right id bytes = right id bytes ≡ true

-- A store that has what must be saved goes on having it, by whatever event.
abbrev pub SavedStays : Type 0
SavedStays = (right : SaveId → List ℕ → Bool) (plan : Plan) (m : State) (worker : ℕ) (e : Event) (at new : SaveId → Option (List ℕ)) →
    IsPlan plan → Kept plan m → can plan m e ≡ true → ChangesBy (Passes right) plan m e at new →
    HasSaved (Passes right) plan m at → HasSaved (Passes right) plan (next plan m worker e) new

-- A store that has no more than what may be there goes on so.
abbrev pub NoMoreStays : Type 0
NoMoreStays = (right : SaveId → List ℕ → Bool) (plan : Plan) (m : State) (worker : ℕ) (e : Event) (at new : SaveId → Option (List ℕ)) →
    IsPlan plan → Kept plan m → can plan m e ≡ true → ChangesBy (Passes right) plan m e at new →
    HasNoMore (Passes right) plan m at → HasNoMore (Passes right) plan (next plan m worker e) new

-- A put under the id of a Save's checkpoint changes what a store has as the Save does.
abbrev pub PutIsSave : Type 0
PutIsSave = (right : SaveId → List ℕ → Bool) (plan : Plan) (m : State) (o i w : ℕ) (entries : List vault.Entry) (bytes : List ℕ) →
    right (record { op = o; boundary = (oper m o).boundary; part = i; window = w }) bytes ≡ true →
    ChangesBy (Passes right) plan m (Save o i w) (vault.entry_at entries)
    (vault.entry_at (vault.with_entry entries (record { op = o; boundary = (oper m o).boundary; part = i; window = w }) bytes))

-- Puts for all new partitions of a line's operator change it as the Repartition does.
abbrev pub PutsAreRepartition : Type 0
PutsAreRepartition = (right : SaveId → List ℕ → Bool) (plan : Plan) (m : State) (l : ℕ) (entries : List vault.Entry) (bytes : ℕ → List ℕ) →
    ((i : ℕ) → i < count_or 0 (line plan l).act →
    right (record { op = (line plan l).op; boundary = (line plan l).window; part = i; window = (line plan l).window }) (bytes i) ≡ true) →
    ChangesBy (Passes right) plan m (Repartition l) (vault.entry_at entries)
    (vault.entry_at (with_parts entries (line plan l).op (line plan l).window (count_or 0 (line plan l).act) bytes))

-- A drop of what is below a window changes it as the Commit does.
abbrev pub DropIsCommit : Type 0
DropIsCommit = (right : SaveId → List ℕ → Bool) (plan : Plan) (m : State) (w : ℕ) (entries : List vault.Entry) →
    ChangesBy (Passes right) plan m (Commit w) (vault.entry_at entries) (vault.entry_at (vault.entries_from entries w))

-- And no other event asks for a change.
abbrev pub OthersLeave : Type 0
OthersLeave = (right : SaveId → List ℕ → Bool) (plan : Plan) (m : State) (e : Event) (at : SaveId → Option (List ℕ)) → leaves e ≡ true →
    ChangesBy (Passes right) plan m e at at

-- A run that begins from nothing, over any store, has what must be saved.
abbrev pub SavedAtFirst : Type 0
SavedAtFirst = (right : SaveId → List ℕ → Bool) (plan : Plan) (s : ℕ) (at : SaveId → Option (List ℕ)) →
    HasSaved (Passes right) plan (beginning plan s 0) at

-- When a run has ended, a store that has what must be saved and no more has the last checkpoints and no other.
abbrev pub LastAtEnd : Type 0
LastAtEnd = (right : SaveId → List ℕ → Bool) (plan : Plan) (s c : ℕ) (es : List Entry) (at : SaveId → Option (List ℕ)) →
    IsHistory plan s c es → EndsWith End es → HasSaved (Passes right) plan (state_after plan s c es) at →
    HasNoMore (Passes right) plan (state_after plan s c es) at → HasLastSaves (Passes right) plan at

-- A store of which a look-up finds the last checkpoints and no other, each with its bytes, is the list of these.
abbrev pub LastIsTheList : Type 0
LastIsTheList = (plan : Plan) (bytes : SaveId → List ℕ) (entries : List vault.Entry) → IsPlan plan → vault.IsInOrder entries →
    HasLastSaves (λ id found. found ≡ bytes id) plan (vault.entry_at entries) → entries ≡ map (λ id. (id, bytes id)) (last_saves plan)
