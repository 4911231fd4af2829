-- Rows: keys with values, as a state has them in its pairs and a bag in its tuples.
use Rattle.std.specs.Prelude.{◌≡◌, ℕ, ℤ, ◌≤◌, ◌||◌, List, [], ◌∷◌, length, map, Bool, true, Option, Some, None, not, IsTrue, FitsSigned}
use Rattle.std.specs.declared.cmp.Ordering.{Ordering}
use Rattle.std.specs.Int.{w64}
use Rattle.std.specs.Ordering.{is_lt, is_gt, int_cmp, ordering_then}
use Rattle.apx_tuple.specs.declared.tuple.Tuple.{Tuple}
use Rattle.apx_tuple.specs.Tuple.{key_order}
use Rattle.apx_tuple.specs.State.{Pair}
use Rattle.apx_wire.specs.Spelling.{AreBytes}

-- a row as a tuple, and a tuple as a row
abbrev pub tuple_of : Pair → Tuple
tuple_of p = record { key = p.0; value = p.1 }

-- a tuple as a row
abbrev pub row_of : Tuple → Pair
row_of t = (t.key, t.value)

-- a row has a key of at most 1,024 bytes and a value of 64 bits with a sign
pub record IsRow (row : Pair) : Type 0 where
  -- its key is of bytes
  pub bytes : AreBytes row.0
  -- at most 1,024 of them
  pub short : length row.0 ≤ 1024
  -- its value is one of 64 bits with a sign
  pub value : FitsSigned w64 row.1

-- each is a row
abbrev pub AreRows : List Pair → Type 0
AreRows [] = Unit {0}
AreRows (row ∷ rows) = IsRow row × AreRows rows

-- Where each key is to stand once: it is above the key before it.
abbrev pub key_may_follow : Bool → Option Pair → List ℕ → Bool
key_may_follow each_once None key = true
key_may_follow each_once (Some earlier) key = not each_once || is_lt (key_order earlier.0 key)

-- Where keys may stand again: the row isn't below the row before it, by key and then by value.
abbrev pub row_may_follow : Bool → Option Pair → Pair → Bool
row_may_follow each_once None row = true
row_may_follow each_once (Some earlier) row = each_once || not (is_gt (ordering_then (key_order earlier.0 row.0) (int_cmp earlier.1 row.1)))

-- each row may come behind the one before it
abbrev pub AreInRow : Bool → Option Pair → List Pair → Type 0
AreInRow each_once before [] = Unit {0}
AreInRow each_once before (row ∷ rows) =
    IsTrue (key_may_follow each_once before row.0) × IsTrue (row_may_follow each_once before row) × AreInRow each_once (Some row) rows
