-- Where the windows of a text begin.
use Rattle.std.specs.Prelude.{◌≡◌, ℕ, ◌*◌, ◌<◌, ◌≤◌, List, length, drop, slice_index}
use Rattle.apx_tuple.specs.declared.kind.InputKind.{InputKind}
use Rattle.apx_pass.specs.Groups.{input_of, groups, IsInput}
use Rattle.apx_pass.specs.Lines.{lines}

-- at this place of the text its lines from the k-th group of `per_window` on begin, counted from 0
pub record IsStart (per_window : ℕ) (text : List ℕ) (k place : ℕ) : Type 0 where
  -- the place is in the text, or at its end
  pub within : place ≤ length text
  -- the group has a line
  pub some : k * per_window < length (lines text)
  -- behind the place stand the lines from its first on
  pub behind : lines (drop place text) ≡ drop (k * per_window) (lines text)

-- each window begins at its place
abbrev pub AreStarts : ℕ → List ℕ → List ℕ → Type 0
AreStarts per_window text starts = (k : ℕ) → k < length starts → IsStart per_window text k (slice_index starts k)

-- what is kept of an accepted file
pub record IsKept (kind : InputKind) (per_window : ℕ) (text starts : List ℕ) : Type 0 where
  -- no line of the file is refused
  pub input : IsInput (input_of kind per_window text)
  -- each window begins at its place
  pub starts_at : AreStarts per_window text starts
  -- each window has one
  pub count : length starts ≡ groups (input_of kind per_window text)
  -- there are at most 20,000
  pub few : length starts ≤ 20000
