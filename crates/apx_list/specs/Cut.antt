-- The greedy cut of a window's messages into blocks.
use Rattle.std.specs.Prelude.{ℕ, ◌+◌, List, [], ◌∷◌, ◌++◌, length, map, nat_le, ◌==◌, if◌then◌else◌}
use Rattle.apx_tuple.specs.declared.tuple.Tuple.{Tuple}
use Rattle.apx_wire.specs.Spelling.{spelling}
use Rattle.apx_list.specs.declared.plan.CutPlan.{CutPlan}
use Rattle.apx_list.specs.declared.block.Block.{Block}
use Rattle.apx_list.specs.Messages.{messages_of}

-- With these bytes in the open piece: a message goes into it where it then doesn't pass the size, else it
-- begins a new one.
abbrev pub pieces_from : ℕ → List ℕ → List (List ℕ) → List (List ℕ)
pieces_from size piece [] = piece ∷ []
pieces_from size piece (message ∷ messages) =
    if nat_le (length piece + length message) size
    then pieces_from size (piece ++ message) messages
    else piece ∷ pieces_from size message messages

-- a window's messages in pieces, each as full as the size allows
abbrev pub pieces_of : CutPlan → ℕ → List Tuple → List (List ℕ)
pieces_of plan window tuples = pieces_from plan.size [] (map spelling (messages_of plan window tuples))

-- the window's blocks, numbered on from an index; the one before index count is the last
abbrev pub numbered : ℕ → ℕ → ℕ → List (List ℕ) → List Block
numbered window count index [] = []
numbered window count index (piece ∷ pieces) =
    record { window = window; index = index; last = (index + 1 == count); bytes = piece }
    ∷ numbered window count (index + 1) pieces

-- the blocks of a window with these tuples
unfoldable pub blocks_of : CutPlan → ℕ → List Tuple → List Block
blocks_of plan window tuples = numbered window (length (pieces_of plan window tuples)) 0 (pieces_of plan window tuples)
