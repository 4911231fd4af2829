-- What an output has got.
use Rattle.std.specs.Prelude.{◌≡◌, ℕ, List, ◌++◌}

-- the output has got a front of the text, and nothing else
pub record GotFront (text old new : List ℕ) : Type 0 where
  -- what was taken of the text
  pub front : List ℕ
  -- what wasn't
  pub rest : List ℕ
  -- these are the text
  pub split : text ≡ front ++ rest
  -- the front stands behind what the output had
  pub got : new ≡ old ++ front
