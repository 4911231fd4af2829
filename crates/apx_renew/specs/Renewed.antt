-- What an operator goes on with behind a boundary, and what the checkpoint store has of it.
use Rattle.std.specs.Prelude.{◌≡◌, ℕ, ◌<◌, Bool, List, length, get_or, Option}
use Rattle.apx_device.specs.declared.vault.SaveId.{SaveId}
use Rattle.apx_history.specs.State.{fresh}
use Rattle.apx_pass.specs.Job.{Job}
use Rattle.apx_held.specs.Fits.{FitsPart, IsSaved, save_id}
use Rattle.apx_held.specs.Holding.{Holding, no_holding}

-- what an operator goes on with behind boundary b: so much is made, for its partitions in order
pub record AreRenewed (job : Job) (told : Bool) (o b made : ℕ) (group : List Holding) : Type 0 where
  -- so much is made
  pub count : length group ≡ made
  -- each fits a partition that has just begun behind the boundary
  pub each : (i : ℕ) → i < made → FitsPart job told o b i (fresh b) (get_or group i no_holding)

-- the store has the checkpoints of so many of them, and what it had under all other ids
pub record KeepRenewed (job : Job) (told : Bool) (o b made : ℕ) (old new : SaveId → Option (List ℕ)) : Type 0 where
  -- the checkpoints
  pub saved : (i : ℕ) → i < made → IsSaved job told o b i b (new (save_id o b i b))
  -- what it had under other ids
  pub others : (id : SaveId) → ((i : ℕ) → i < made → id ≡ save_id o b i b → ⊥) → new id ≡ old id
