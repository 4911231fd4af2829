-- The lines of a file.
use Rattle.std.specs.Prelude.{ℕ, ◌==◌, cond, List, [], ◌∷◌, map}

-- a byte in front of the first piece
abbrev pub in_front : ℕ → List (List ℕ) → List (List ℕ)
in_front byte [] = (byte ∷ []) ∷ []
in_front byte (piece ∷ pieces) = (byte ∷ piece) ∷ pieces

-- a text cut at each LF, byte 10; a last piece counts where it isn't empty
unfoldable pub pieces : List ℕ → List (List ℕ)
pieces [] = []
pieces (byte ∷ bytes) = cond (byte == 10) ([] ∷ pieces bytes) (in_front byte (pieces bytes))

-- a line without one CR, byte 13, at its end
unfoldable pub without_cr : List ℕ → List ℕ
without_cr [] = []
without_cr (byte ∷ []) = cond (byte == 13) [] (byte ∷ [])
without_cr (byte ∷ next ∷ bytes) = byte ∷ without_cr (next ∷ bytes)

-- the lines of a text
unfoldable pub lines : List ℕ → List (List ℕ)
lines bytes = map without_cr (pieces bytes)
