-- What a checkpoint store has, by looking up ids, while the events of a run make and drop checkpoints. What is kept under an id is
-- right where P holds of it.
--     HasSaved P plan m at           it has what a state of the run must have saved
--     HasNoMore P plan m at          it has no more than what may be there
--     ChangesBy P plan m e at new    an event changes what it has
--     HasLastSaves P plan at         it has the last checkpoints of a plan and no other
use Rattle.std.specs.Prelude.{◌≡◌, ℕ, zero, suc, ◌<◌, Bool, true, false, nat_lt, List, Option, None, Some}
use Rattle.apx_device.specs.declared.vault.SaveId.{SaveId}
use Rattle.apx_device.specs.Vault.{Entry, with_entry}
use Rattle.apx_history.specs.declared.Event.{Event}
use Rattle.apx_history.specs.declared.Event.TheVariants.{Save, Commit, Repartition}
use Rattle.apx_history.specs.Plan.{Plan}
use Rattle.apx_history.specs.State.{State}
use Rattle.apx_promise.specs.Checkpoints.{IsLastSave, MustBeSaved, MayBeSaved, IsMadeBy}

-- something is there under an id, and is right
abbrev pub IsRight : (SaveId → List ℕ → Type 0) → SaveId → Option (List ℕ) → Type 0
IsRight P id found = (bytes : List ℕ) × (found ≡ Some bytes) × P id bytes

-- It has each checkpoint that a state of the run must have saved, but for window 0.
abbrev pub HasSaved : (SaveId → List ℕ → Type 0) → Plan → State → (SaveId → Option (List ℕ)) → Type 0
HasSaved P plan m at = (id : SaveId) → 0 < id.window → MustBeSaved plan m id → IsRight P id (at id)

-- Whatever it has may be there, and is right.
abbrev pub HasNoMore : (SaveId → List ℕ → Type 0) → Plan → State → (SaveId → Option (List ℕ)) → Type 0
HasNoMore P plan m at = (id : SaveId) (bytes : List ℕ) → at id ≡ Some bytes → MayBeSaved plan m.committed id × P id bytes

-- the event drops the checkpoint
abbrev pub drops : Event → SaveId → Bool
drops (Commit w) id = nat_lt id.window w
drops e id = false

-- An event changes what it has: what the event makes is there now, what it drops is gone, and the rest stays.
pub record ChangesBy (P : SaveId → List ℕ → Type 0) (plan : Plan) (m : State) (e : Event) (at new : SaveId → Option (List ℕ)) : Type 0 where
  -- what the event makes
  pub made : (id : SaveId) → IsMadeBy plan m e id → IsRight P id (new id)
  -- what it drops
  pub dropped : (id : SaveId) → drops e id ≡ true → new id ≡ None
  -- the rest
  pub rest : (id : SaveId) → (IsMadeBy plan m e id → ⊥) → drops e id ≡ false → new id ≡ at id

-- the event makes and drops none
abbrev pub leaves : Event → Bool
leaves (Save o i w) = false
leaves (Commit w) = false
leaves (Repartition l) = false
leaves e = true

-- the entries of a store after a put for each of n partitions of operator o, in the epoch that begins behind window b
abbrev pub with_parts : List Entry → ℕ → ℕ → ℕ → (ℕ → List ℕ) → List Entry
with_parts entries o b zero bytes = entries
with_parts entries o b (suc n) bytes =
    with_entry (with_parts entries o b n bytes) (record { op = o; boundary = b; part = n; window = b }) (bytes n)

-- It has the last checkpoints of a plan, and no other.
pub record HasLastSaves (P : SaveId → List ℕ → Type 0) (plan : Plan) (at : SaveId → Option (List ℕ)) : Type 0 where
  -- each of them
  pub each : (id : SaveId) → IsLastSave plan id → IsRight P id (at id)
  -- and no other
  pub only : (id : SaveId) (bytes : List ℕ) → at id ≡ Some bytes → IsLastSave plan id × P id bytes
