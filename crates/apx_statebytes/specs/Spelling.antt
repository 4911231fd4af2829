-- The bytes of a progress, and of a state alone.
use Rattle.std.specs.Prelude.{◌≡◌, ℕ, ◌<◌, List, [], ◌∷◌, ◌++◌, length, map, ◌⊎◌}
use Rattle.std.specs.List.{flat_map}
use Rattle.std.specs.Int.{w16, w32, w64, to_be_bytes, cast_unsigned}
use Rattle.apx_tuple.specs.declared.progress.Progress.{Progress}
use Rattle.apx_tuple.specs.Progress.{progress_size}
use Rattle.apx_tuple.specs.State.{Pair, IsState}
use Rattle.apx_tuple.specs.Tuple.{IsBag}
use Rattle.apx_statebytes.specs.Rows.{row_of, AreRows}

-- the length of the key, the key, and the value in two's complement
abbrev pub row_spelling : Pair → List ℕ
row_spelling row = to_be_bytes w16 (length row.0) ++ (row.0 ++ to_be_bytes w64 (cast_unsigned w64 row.1))

-- how many rows there are, and each row
abbrev pub rows_spelling : List Pair → List ℕ
rows_spelling rows = to_be_bytes w32 (length rows) ++ flat_map row_spelling rows

-- the rows of a progress: its state, and what came on its two ports
abbrev pub left_rows : Progress → List Pair
left_rows g = map row_of g.left

-- what came on the right port
abbrev pub right_rows : Progress → List Pair
right_rows g = map row_of g.right

-- spelling 1: a state alone
abbrev pub first_spelling : List Pair → List ℕ
first_spelling state = rows_spelling state

-- spelling 2: a mark, the number of the spelling, the state, and what came on the left and on the right
abbrev pub second_spelling : Progress → List ℕ
second_spelling g = 255 ∷ 2 ∷ (rows_spelling g.state ++ (rows_spelling (left_rows g) ++ rows_spelling (right_rows g)))

-- a progress that isn't large, of rows that have a spelling
pub record IsProgress (g : Progress) : Type 0 where
  -- its state is one
  pub state : IsState g.state
  -- what came on the left is a bag
  pub left : IsBag g.left
  -- what came on the right is a bag
  pub right : IsBag g.right
  -- the pairs of its state can be spelled
  pub state_rows : AreRows g.state
  -- so can the tuples of the left
  pub left_are : AreRows (left_rows g)
  -- so can those of the right
  pub right_are : AreRows (right_rows g)
  -- all three together are not large
  pub small : progress_size g < 4294967232

-- The bytes spell the progress: in spelling 2, or in spelling 1, where nothing came on its ports.
abbrev pub Spells : List ℕ → Progress → Type 0
Spells bytes g = (bytes ≡ second_spelling g) ⊎ ((bytes ≡ first_spelling g.state) × (g.left ≡ []) × (g.right ≡ []))
