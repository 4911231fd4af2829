-- How much of a piece is sent at each turn of the loop.
use Rattle.std.proofs.Common.{◌≡◌, ℕ, List, ◌++◌}

-- the output has got all of the piece but the rest
pub record HasSent (piece rest before now : List ℕ) : Type 0 where
  -- what the output has got of it
  pub front : List ℕ
  -- it is the front of the piece
  pub split : piece ≡ front ++ rest
  -- it stands behind what the output had
  pub got : now ≡ before ++ front
