-- Rows as bytes: of each row the length of its key in two bytes, the key, and its value in eight, in two's complement.
use Rattle.std.specs.Prelude.{◌≡◌, ℕ, ◌+◌, ◌≤◌, Bool, zero, suc, List, [], ◌∷◌, ◌++◌, length, take, drop, Option, Some, None, nat_le, if◌then◌else◌, ◌&&◌, FitsSigned}
use Rattle.std.specs.List.{flat_map}
use Rattle.std.specs.Int.{w16, w64, to_be_bytes, from_be_bytes, cast_unsigned, cast_signed}
use Rattle.apx_tuple.specs.declared.tuple.Tuple.{Tuple}

-- the tuple has a key of at most 1,024 bytes and a value of 64 bits with a sign
pub record IsRow (row : Tuple) : Type 0 where
  -- the key isn't too long
  pub short : length row.key ≤ 1024
  -- the value has 64 bits
  pub value : FitsSigned w64 row.value

-- the bytes of a row
abbrev pub row_bytes : Tuple → List ℕ
row_bytes row = to_be_bytes w16 (length row.key) ++ (row.key ++ to_be_bytes w64 (cast_unsigned w64 row.value))

-- the bytes of rows, one behind the other
abbrev pub rows_bytes : List Tuple → List ℕ
rows_bytes rows = flat_map row_bytes rows

-- how long the key of the first row is
abbrev pub key_length : List ℕ → ℕ
key_length bytes = from_be_bytes w16 (take 2 bytes)

-- whether a row stands at the front, whole and with a key that isn't too long
abbrev pub is_row : List ℕ → Bool
is_row bytes = nat_le 10 (length bytes) && (nat_le (key_length bytes) 1024 && nat_le (key_length bytes + 10) (length bytes))

-- the row at the front
abbrev pub row_in : List ℕ → Tuple
row_in bytes = record {
  key = take (key_length bytes) (drop 2 bytes);
  value = cast_signed w64 (from_be_bytes w64 (take 8 (drop (key_length bytes + 2) bytes)));
}

-- one row more in front
abbrev pub with_row : Tuple → Option (List Tuple) → Option (List Tuple)
with_row row None = None
with_row row (Some rows) = Some (row ∷ rows)

-- the rows that the bytes are, if they are so many rows and nothing else
abbrev pub rows_in : ℕ → List ℕ → Option (List Tuple)
rows_in zero [] = Some []
rows_in zero (byte ∷ bytes) = None
rows_in (suc count) bytes = if is_row bytes then with_row (row_in bytes) (rows_in count (drop (key_length bytes + 10) bytes)) else None

-- bytes are as they were, with something behind them or nothing
pub record Extends (old new : List ℕ) : Type 0 where
  -- what was appended
  pub more : List ℕ
  -- it stands behind what was there
  pub is : new ≡ old ++ more
