-- What is read of a checkpoint is what the partition carried.
use Rattle.std.proofs.Common.{◌≡◌, ℕ, Bool, List, Result, Ok, Err, IsTrue, ◌∙◌}
use Rattle.std.specs.Prelude.{IfOk}
use Rattle.apx_device.specs.declared.vault.SaveId.{SaveId}
use Rattle.apx_device.specs.Vault.{Entry, entry_at, bytes_at}
use Rattle.apx_pass.specs.Job.{Job}
use Rattle.apx_statebytes.specs.declared.fault.StateFault.{StateFault}
use Rattle.apx_statebytes.specs.declared.fault.StateFault.TheVariants.{Bad, Memory}
use Rattle.apx_statebytes.specs.Reading.{Gives}
use Rattle.apx_statebytes.specs.Spelling.{Spells, IsProgress}
use Rattle.apx_tuple.specs.declared.progress.Progress.{Progress}
use Rattle.apx_held.specs.Fits.{IsSaved}
use Rattle.apx_held.specs.Partition.{progress_at}
use Rattle.apx_held.proofs.Recovering.{saved_spells}

ok_as : {E : Type 0} (r : Result Progress E) (g h : Progress) → IfOk r (λ x. x ≡ g) → g ≡ h → IfOk r (λ x. x ≡ h)
ok_as (Ok x) g h is same = is ∙ same
ok_as (Err e) g h is same = tt

-- the bytes of a checkpoint give what the partition carried
pub carried_back : {E : Type 0} (r : Result Progress E) (job : Job) (told : Bool) (entries : List Entry) (id : SaveId) (bytes : List ℕ) → bytes ≡ bytes_at entries id
    → ((g : Progress) → IsProgress g → Spells bytes g → IfOk r (λ x. x ≡ g)) → IsSaved job told id.op id.boundary id.part id.window (entry_at entries id)
    → IsTrue told → IfOk r (λ g. g ≡ progress_at job id.op id.boundary id.part id.window)
carried_back r job told entries id bytes read only saved t =
    ok_as r saved.progress (progress_at job id.op id.boundary id.part id.window) (only saved.progress saved.small (saved_spells job told entries id bytes saved read)) (saved.named t)

-- what is refused for its bytes isn't read
pub refused : (fault : StateFault) (at : ℕ) (x : Progress) → fault ≡ Bad at → Gives (λ (y : Progress). y) (Err fault) (Ok x) → ⊥
refused (Bad place) at x is h = absurd (cc h)
refused Memory at x is h = absurd (cc is)
