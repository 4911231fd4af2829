-- What is kept of a text to which more was to be appended.
use Rattle.std.specs.Prelude.{◌≡◌, ℕ, List, ◌++◌}

-- the text is as it was, with something behind it or nothing
pub record Extends (old new : List ℕ) : Type 0 where
  -- what was appended
  pub more : List ℕ
  -- it stands behind what was there
  pub is : new ≡ old ++ more
