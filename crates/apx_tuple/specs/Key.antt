-- The front of a key: its first eight bytes as one number.
use Rattle.std.specs.Prelude.{◌≡◌, ℕ, zero, suc, ◌+◌, ◌*◌, ◌<◌, List, slice_index_or}

-- the first n bytes as one number, the first of them counting most, with zeros behind a shorter key
unfoldable pub first_bytes : ℕ → List ℕ → ℕ
first_bytes zero bytes = 0
first_bytes (suc n) bytes = first_bytes n bytes * 256 + slice_index_or bytes n 0

-- the number is the front of a key with these bytes: keys whose fronts differ go in the order of these
pub record IsFront (front : ℕ) (bytes : List ℕ) : Type 0 where
  -- it is the number of the first eight bytes
  pub spells : front ≡ first_bytes 8 bytes
  -- and each byte is one
  pub fits : (k : ℕ) → slice_index_or bytes k 0 < 256
