-- What the checkpoint of a partition has is what the partition carries from the checkpoint's window.
use Rattle.std.proofs.Common.{◌≡◌, ℕ, ◌<◌, ◌≤◌, inl, Bool, List, [], Option, unwrap_or, sym, ap, ◌∙◌, arith}
use Rattle.apx_device.specs.declared.vault.SaveId.{SaveId}
use Rattle.apx_device.specs.Vault.{Entry, entry_at, bytes_at}
use Rattle.apx_history.specs.Plan.{Plan}
use Rattle.apx_history.specs.State.{State, slot, oper, IsPart}
use Rattle.apx_history.specs.Enabled.{limit}
use Rattle.apx_history.specs.Kept.{Kept}
use Rattle.apx_history.proofs.Lines.{limit-start}
use Rattle.apx_pass.specs.Pass.{at_start}
use Rattle.apx_pass.specs.Job.{Job}
use Rattle.apx_statebytes.specs.Spelling.{Spells}
use Rattle.apx_held.specs.Partition.{progress_at}
use Rattle.apx_held.specs.Fits.{save_id, IsSaved, AreSaved}
use Rattle.apx_held.proofs.Begun.{carries_nothing}

-- a recovery checkpoint is at a window of the job
pub rc_within : (plan : Plan) (m : State) (o i : ℕ) → Kept plan m → IsPart m o i → (slot m o i).rc ≤ plan.windows
rc_within plan m o i kept part =
    let s = kept.each o i part in
    let top : limit plan m o ≤ plan.windows = limit-start o plan.lines m.left plan.windows in
    omega (arith, s.rc, s.at, top)

-- the vault has the recovery checkpoint of each partition, but at window 0
pub saved_rc : (job : Job) (told : Bool) (at : SaveId → Option (List ℕ)) (plan : Plan) (m : State) (o i : ℕ) → Kept plan m → IsPart m o i → AreSaved job told at m → 0 < (slot m o i).rc
    → IsSaved job told o (oper m o).boundary i (slot m o i).rc (at (save_id o (oper m o).boundary i (slot m o i).rc))
saved_rc job told at plan m o i kept part saved pos = saved o i part (slot m o i).rc pos (kept.each o i part).rc_saved

-- behind window 0 a partition carries nothing
pub recovers_start : (job : Job) (o b i w : ℕ) → w ≡ 0 → at_start ≡ progress_at job o b i w
recovers_start job o b i w e = sym (ap (λ (k : ℕ). progress_at job o b i k) e ∙ carries_nothing job o b i)

-- the bytes of a checkpoint spell its progress
pub saved_spells : (job : Job) (told : Bool) (entries : List Entry) (id : SaveId) (bytes : List ℕ) (saved : IsSaved job told id.op id.boundary id.part id.window (entry_at entries id))
    → bytes ≡ bytes_at entries id → Spells bytes saved.progress
saved_spells job told entries id bytes saved read = inl (read ∙ ap (λ (found : Option (List ℕ)). unwrap_or found []) saved.spelled)
