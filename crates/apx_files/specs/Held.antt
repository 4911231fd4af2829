-- What an output that holds bytes back makes of a piece.
use Rattle.std.specs.Prelude.{ℕ, List, ◌++◌, Option}
use Rattle.std.specs.Io.KnownBytes.{Appends, append_known}

-- what was written and what is held back, together, have grown by the piece
abbrev pub HasTaken : Option (List ℕ) → List ℕ → Option (List ℕ) → List ℕ → List ℕ → Type 0
HasTaken written held now kept piece = Appends (append_known written held) (append_known now kept) piece
