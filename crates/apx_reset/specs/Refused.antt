-- Why a partition can't begin anew.
use Rattle.std.specs.Prelude.{◌≡◌, ℕ, List, ⊤}
use Rattle.apx_course.specs.declared.faults.CoreFault.{CoreFault}
use Rattle.apx_course.specs.declared.faults.CoreFault.TheVariants.{State, Memory, Large}
use Rattle.apx_device.specs.declared.vault.SaveId.{SaveId}
use Rattle.apx_renew.specs.Owned.{owned_of}
use Rattle.apx_shares.specs.Carried.{merge_progress}
use Rattle.apx_statebytes.specs.Spelling.{Spells, IsProgress}
use Rattle.apx_tuple.specs.declared.progress.Progress.{Progress}
use Rattle.apx_tuple.specs.Progress.{IsLargeProgress}

-- why the bytes of a checkpoint give no progress: they spell none, and the fault shows them, or memory is wanting
abbrev pub IsUnspelled : {F : Type 0} → SaveId → List ℕ → CoreFault F → Type 0
IsUnspelled id bytes (State shown there) =
    (shown ≡ id) × (there.items ≡ bytes) × ((g : Progress) → IsProgress g → Spells bytes g → ⊥)
IsUnspelled id bytes Memory = ⊤
IsUnspelled id bytes why = ⊥

-- why what partitions carry can't go on in others: all of it together is too large, or memory is wanting
abbrev pub IsUnmoved : {F : Type 0} → List Progress → CoreFault F → Type 0
IsUnmoved parts Large = IsLargeProgress (merge_progress (owned_of parts))
IsUnmoved parts Memory = ⊤
IsUnmoved parts why = ⊥

-- the bytes spell a progress
pub record SpellOne (bytes : List ℕ) : Type 0 where
  -- the progress
  pub progress : Progress
  -- it isn't large
  pub is : IsProgress progress
  -- they spell it
  pub spelled : Spells bytes progress
