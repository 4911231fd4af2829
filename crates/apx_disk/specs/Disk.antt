-- What the calls of a disk do to its file, and what a crash may make of it until the next sync.
use Rattle.std.specs.Prelude.{◌≡◌, ℕ, ◌+◌, ◌≤◌, max, min, List, ◌++◌, length, take, drop}

-- new is old with these bytes at this place
abbrev pub Holds : List ℕ → ℕ → List ℕ → List ℕ → Type 0
Holds old at bytes new = new ≡ take at old ++ bytes ++ drop (at + length bytes) old

-- after a write of n bytes that a crash may cut short: any bytes in its range and past the old end, the same elsewhere
pub record Torn (at n : ℕ) (old new : List ℕ) : Type 0 where
  -- the bytes before the range stay
  pub before : take at new ≡ take at old
  -- the bytes behind it stay
  pub after : drop (at + n) new ≡ drop (at + n) old
  -- the file gets no shorter
  pub no_shorter : length old ≤ length new
  -- and no longer than the range needs
  pub no_longer : length new ≤ max (length old) (at + n)

-- after a cut to n: what is past it may stay, be gone, or hold any bytes
pub record CutTo (n : ℕ) (old new : List ℕ) : Type 0 where
  -- the bytes before the place stay
  pub before : take n new ≡ take n old
  -- no more than what is past the place is gone
  pub no_shorter : min n (length old) ≤ length new
  -- the file gets no longer
  pub no_longer : length new ≤ length old

-- what a step leaves of one of the images
abbrev pub After : (List ℕ → Type 0) → (List ℕ → List ℕ → Type 0) → List ℕ → Type 0
After images step image = (before : List ℕ) × images before × step before image

-- the file is the one image
abbrev pub Only : List ℕ → (List ℕ → Type 0) → Type 0
Only file images = (image : List ℕ) → images image → image ≡ file
