-- What was written and what is held back, together, after a piece.
use Rattle.std.proofs.Common.{◌≡◌, ℕ, List, [], ◌++◌, Option, Some, None, sym, ap, ◌∙◌, append_assoc}
use Rattle.std.proofs.lemmas.List.{append-nil}
use Rattle.std.specs.Io.KnownBytes.{Appends, Keeps}
use Rattle.apx_files.specs.Held.{HasTaken}

-- a flush behind what was written
pub appends_kept : (old mid new : Option (List ℕ)) (piece : List ℕ) → Appends old mid piece → Keeps mid new → Appends old new piece
appends_kept None mid new piece written kept = tt
appends_kept (Some xs) None new piece written kept = absurd written
appends_kept (Some xs) (Some ys) None piece written kept = absurd kept
appends_kept (Some xs) (Some ys) (Some zs) piece written kept = kept ∙ written

-- the piece is held back
pub taken_held : (contents : Option (List ℕ)) (held now piece : List ℕ) → now ≡ held ++ piece → HasTaken contents held contents now piece
taken_held None held now piece more = tt
taken_held (Some xs) held now piece more = ap (λ h. xs ++ h) more ∙ sym (append_assoc xs held piece)

-- what was held back is written, and then the piece
pub taken_written : (old mid new : Option (List ℕ)) (held now piece : List ℕ) → Appends old mid held → Appends mid new piece → now ≡ [] → HasTaken old held new now piece
taken_written None mid new held now piece first second none = tt
taken_written (Some xs) None new held now piece first second none = absurd first
taken_written (Some xs) (Some ys) None held now piece first second none = absurd second
taken_written (Some xs) (Some ys) (Some zs) held now piece first second none =
    ap (λ h. zs ++ h) none ∙ append-nil zs ∙ second ∙ ap (λ h. h ++ piece) first
