-- What is left of a text.
use Rattle.std.specs.Prelude.{◌≡◌, ℕ, ◌-◌, ◌≤◌, List, length, drop}

-- rest is what some place of the text begins
pub record IsRest (text rest : List ℕ) : Type 0 where
  -- it is no longer than the text
  pub shorter : length rest ≤ length text
  -- and has its last bytes
  pub same : rest ≡ drop (length text - length rest) text
