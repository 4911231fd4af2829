-- How long spelling 2 of a progress is.
use Rattle.std.proofs.Common.{◌≡◌, ◌+◌, List, [], ◌∷◌, ◌++◌, length, refl, arith, length-append}
use Rattle.std.specs.List.{flat_map}
use Rattle.std.specs.Int.{w16, w32, w64, to_be_bytes, cast_unsigned}
use Rattle.apx_tuple.specs.Size.{size_by}
use Rattle.apx_tuple.specs.State.{Pair, pair_key}
use Rattle.apx_tuple.specs.Progress.{progress_size}
use Rattle.apx_tuple.specs.declared.progress.Progress.{Progress}
use Rattle.apx_statebytes.specs.Spelling.{row_spelling, rows_spelling, left_rows, right_rows, second_spelling}
use Rattle.apx_statebytes.proofs.Order.{size_of_rows}

flat_length : (rows : List Pair) → length (flat_map row_spelling rows) ≡ size_by pair_key rows
flat_length [] = refl
flat_length (row ∷ rows) =
    omega (
      arith,
      flat_length rows,
      length-append (row_spelling row) (flat_map row_spelling rows),
      length-append (to_be_bytes w16 (length row.0)) (row.0 ++ to_be_bytes w64 (cast_unsigned w64 row.1)),
      length-append row.0 (to_be_bytes w64 (cast_unsigned w64 row.1)),
    )

rows_length : (rows : List Pair) → length (rows_spelling rows) ≡ size_by pair_key rows + 4
rows_length rows = omega (arith, flat_length rows, length-append (to_be_bytes w32 (length rows)) (flat_map row_spelling rows))

pub second_length : (g : Progress) → length (second_spelling g) ≡ progress_size g + 14
second_length g =
    let state = rows_spelling g.state in
    let left = rows_spelling (left_rows g) in
    let right = rows_spelling (right_rows g) in
    omega (
      arith,
      rows_length g.state,
      rows_length (left_rows g),
      rows_length (right_rows g),
      size_of_rows g.left,
      size_of_rows g.right,
      length-append state (left ++ right),
      length-append left right,
    )
