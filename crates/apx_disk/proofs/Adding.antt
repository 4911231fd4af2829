-- What a crash may leave while a record is added.
use Rattle.std.proofs.Common.{◌≡◌, ◌⊎◌, inl, ℕ, ◌+◌, ◌^◌, ◌<◌, List, [], ◌∷◌, length, take, sym, ap, ◌∙◌, subst}
use Rattle.apx_cause.specs.Steps.{Steps}
use Rattle.apx_cause.proofs.Going.{weaker, go_on}
use Rattle.apx_disk.specs.Disk.{Holds, Torn, After, Only}
use Rattle.apx_disk.specs.Log.{read_log, with_record, spelled_behind, Grows, IsReady}
use Rattle.apx_disk.proofs.Images.{Staged, keeps_front, ready_front, staged, torn_gate, opened_gate}

-- what was written behind the closed gate changes no record
pub same_behind : (file image : List ℕ) (images : List ℕ → Type 0) (gate n : ℕ) → IsReady file images gate → Torn (gate + 1) n file image → read_log image ≡ read_log file
same_behind file image images gate n ready torn = keeps_front file image gate ready.end ready.shut ready.within torn.before

pub stage_crash : {before now : ℕ} {old new : ℕ → List ℕ → Type 0} (file : List ℕ) (gate n : ℕ) → IsReady file (old before) gate → Steps before now old new (After (old before) (Torn (gate + 1) n)) → Steps before now old new (λ image. read_log image ≡ read_log file)
stage_crash {before = before} {old = old} file gate n ready steps =
    weaker (λ image after. same_behind file image (old before) gate n ready (subst (λ (f : List ℕ). Torn (gate + 1) n f image) (ready.only after.0 after.1) after.2)) steps

-- and the file is ready once it is synced
pub stage_ready : (file written synced : List ℕ) (images after : List ℕ → Type 0) (gate n : ℕ) → IsReady file images gate → Torn (gate + 1) n file written → synced ≡ written → Only written after → IsReady synced after gate
stage_ready file written synced images after gate n ready torn same only =
    ready_front file synced images after gate ready (ap (take (gate + 1)) same ∙ torn.before) (subst (λ (f : List ℕ). Only f after) (sym same) only)

-- the gate is written
pub gate_crash : {before mid now : ℕ} {old between new : ℕ → List ℕ → Type 0} (was file body piece : List ℕ) (gate : ℕ) → gate < length was → piece ≡ spelled_behind body → Holds was (gate + 1) piece file → IsReady file (between mid) gate → read_log file ≡ read_log was → length body < 2 ^ 32
    → Steps before mid old between (λ image. read_log image ≡ read_log was) → Steps mid now between new (After (between mid) (Torn gate 1)) → Steps before now old new (Grows was body)
gate_crash {mid = mid} {between = between} was file body piece gate within piece_is holds ready same fits first second =
    let st : Staged file gate body = staged was file gate body within (subst (λ (p : List ℕ). Holds was (gate + 1) p file) piece_is holds) in
    go_on
    (λ image after.
    let torn = subst (λ (f : List ℕ). Torn gate 1 f image) (ready.only after.0 after.1) after.2 in
    subst (λ r. (read_log image ≡ r) ⊎ (read_log image ≡ with_record body r)) same (torn_gate file image gate body ready.end ready.within st fits torn))
    (weaker (λ image is. inl is) first)
    second

-- the record stands
pub gate_open : (was file written synced body piece : List ℕ) (images after : List ℕ → Type 0) (gate : ℕ) → gate < length was → piece ≡ spelled_behind body → Holds was (gate + 1) piece file → IsReady file images gate → read_log file ≡ read_log was → length body < 2 ^ 32
    → Holds file gate (1 ∷ []) written → synced ≡ written → Only written after → (read_log synced ≡ with_record body (read_log was)) × IsReady synced after (gate + (length body + 5))
gate_open was file written synced body piece images after gate within piece_is holds ready same fits opened seen only =
    let st : Staged file gate body = staged was file gate body within (subst (λ (p : List ℕ). Holds was (gate + 1) p file) piece_is holds) in
    let done = opened_gate file file synced after gate body ready.end ready.within st fits (subst (λ (f : List ℕ). Holds file gate (1 ∷ []) f) (sym seen) opened) (subst (λ (f : List ℕ). Only f after) (sym seen) only) in
    (done.0 ∙ ap (with_record body) same, done.1)
