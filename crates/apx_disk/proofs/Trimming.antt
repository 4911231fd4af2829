-- What a crash may leave while a file is made ready for a further record.
use Rattle.std.proofs.Common.{◌≡◌, ℕ, ◌+◌, ◌≤◌, List, [], ◌∷◌, length, Some, refl, sym, ap, ◌∙◌, subst}
use Rattle.apx_cause.specs.Steps.{Steps}
use Rattle.apx_cause.proofs.Going.{weaker, go_on}
use Rattle.apx_disk.specs.Disk.{Holds, Torn, CutTo, After, Only}
use Rattle.apx_disk.specs.Log.{read_log, end_of, SpellsOne, IsReady}
use Rattle.apx_disk.proofs.Images.{spells}
use Rattle.apx_disk.proofs.Repair.{keeps_cut, keeps_shut, shut_ready}

pub end_within : (file : List ℕ) (gate : ℕ) → end_of (read_log file) ≡ Some gate → gate ≤ length file
end_within file gate is = (spells file gate is).within

pub trim_crash : {before now : ℕ} {old new : ℕ → List ℕ → Type 0} (file : List ℕ) (gate : ℕ) → end_of (read_log file) ≡ Some gate → gate + 1 ≤ length file → Only file (old before) → Steps before now old new (After (old before) (CutTo (gate + 1))) → Steps before now old new (λ image. read_log image ≡ read_log file)
trim_crash file gate is within only steps =
    weaker (λ image after. keeps_cut file image gate is within (subst (λ (f : List ℕ). CutTo (gate + 1) f image) (only after.0 after.1) after.2)) steps

pub shut_crash : {before mid now : ℕ} {old between new : ℕ → List ℕ → Type 0} (was file : List ℕ) (gate : ℕ) → end_of (read_log was) ≡ Some gate → read_log file ≡ read_log was → length file ≤ gate + 1 → Only file (between mid)
    → Steps before mid old between (λ image. read_log image ≡ read_log was) → Steps mid now between new (After (between mid) (Torn gate 1)) → Steps before now old new (λ image. read_log image ≡ read_log was)
shut_crash was file gate is same short only first second =
    go_on (λ image after. keeps_shut file image gate (ap end_of same ∙ is) short (subst (λ (f : List ℕ). Torn gate 1 f image) (only after.0 after.1) after.2) ∙ same) first second

pub shut_done : (was file written synced : List ℕ) (after : List ℕ → Type 0) (gate : ℕ) → end_of (read_log was) ≡ Some gate → read_log file ≡ read_log was → length file ≤ gate + 1 → Torn gate 1 file written → Holds file gate (0 ∷ []) written → synced ≡ written → Only written after → IsReady synced after gate
shut_done was file written synced after gate is same short torn holds seen only =
    let end : end_of (read_log file) ≡ Some gate = ap end_of same ∙ is in
    let read : read_log synced ≡ read_log file = ap read_log seen ∙ keeps_shut file written gate end short torn in
    shut_ready file synced after gate end (end_within file gate end) read (subst (λ (f : List ℕ). Holds file gate (0 ∷ []) f) (sym seen) holds) (subst (λ (f : List ℕ). Only f after) (sym seen) only)

pub shut_same : (was file written : List ℕ) (gate : ℕ) → end_of (read_log was) ≡ Some gate → read_log file ≡ read_log was → length file ≤ gate + 1 → Torn gate 1 file written → read_log written ≡ read_log was
shut_same was file written gate is same short torn = keeps_shut file written gate (ap end_of same ∙ is) short torn ∙ same

-- a list is opened: the file is read, and then made ready
pub open_crash : {before mid now : ℕ} {old between new : ℕ → List ℕ → Type 0} (file seen : List ℕ) → old before file → Steps before mid old between (old before) → seen ≡ file → Steps mid now between new (λ image. read_log image ≡ read_log seen) → Steps before now old new (SpellsOne (old before))
open_crash file seen is first same second =
    go_on (λ image read. (file, is, read ∙ ap read_log same)) (weaker (λ image was. (image, was, refl)) first) second

pub fetch_crash : {before now : ℕ} {old new : ℕ → List ℕ → Type 0} → Steps before now old new (old before) → Steps before now old new (SpellsOne (old before))
fetch_crash steps = weaker (λ image was. (image, was, refl)) steps
