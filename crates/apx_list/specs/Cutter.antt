-- What a cutter stands for: the pieces of all messages, whatever comes after those that it was given.
use Rattle.std.specs.Prelude.{◌≡◌, ℕ, List, ◌∷◌, ◌++◌, map, take, drop}
use Rattle.apx_wire.specs.Spelling.{spelling}
use Rattle.apx_wire.specs.declared.message.Message.{Message}
use Rattle.apx_list.specs.declared.cutting.Cutter.{Cutter}
use Rattle.apx_list.specs.Cut.{pieces_from}

-- the pieces, once messages are added to this current piece
abbrev pub pieces_by : Cutter → List ℕ → List (List ℕ) → List (List ℕ)
pieces_by cutter current messages = map (λ piece. piece.items) cutter.done.items ++ pieces_from cutter.size current messages

-- the pieces, once messages are added
abbrev pub pieces_with : Cutter → List (List ℕ) → List (List ℕ)
pieces_with cutter messages = pieces_by cutter cutter.current.items messages

-- new is old with these messages added
abbrev pub Adds : (old new : Cutter) → List Message → Type 0
Adds old new messages = (rest : List (List ℕ)) → pieces_with new rest ≡ pieces_with old (map spelling messages ++ rest)

-- new is old, where a message stands from this place on in the current piece, with the message put where it belongs
abbrev pub Settles : Cutter → ℕ → Cutter → Type 0
Settles old place new = (rest : List (List ℕ)) →
    pieces_with new rest ≡ pieces_by old (take place old.current.items) (drop place old.current.items ∷ rest)
