-- How long the bytes of a checkpoint are.
use Rattle.std.proofs.Common.{◌≡◌, ℕ, ◌+◌, ◌<◌, List, [], ◌∷◌, ◌++◌, length, map, refl, ap, arith, length-append}
use Rattle.std.specs.List.{flat_map}
use Rattle.std.specs.Int.{w16, w32, w64, to_be_bytes, cast_unsigned}
use Rattle.apx_tuple.specs.declared.progress.Progress.{Progress}
use Rattle.apx_tuple.specs.declared.tuple.Tuple.{Tuple}
use Rattle.apx_tuple.specs.Progress.{progress_size}
use Rattle.apx_tuple.specs.Size.{size_by}
use Rattle.apx_tuple.specs.State.{Pair, pair_key}
use Rattle.apx_tuple.specs.Tuple.{tuple_key}
use Rattle.apx_statebytes.specs.Rows.{row_of}
use Rattle.apx_statebytes.specs.Spelling.{row_spelling, rows_spelling, left_rows, right_rows, second_spelling}

each_row : (rows : List Pair) → length (flat_map row_spelling rows) ≡ size_by pair_key rows
each_row [] = refl
each_row (row ∷ rows) =
    let two : length (to_be_bytes w16 (length row.0)) ≡ 2 = refl in
    let eight : length (to_be_bytes w64 (cast_unsigned w64 row.1)) ≡ 8 = refl in
    omega (
      arith,
      length-append (row_spelling row) (flat_map row_spelling rows),
      length-append (to_be_bytes w16 (length row.0)) (row.0 ++ to_be_bytes w64 (cast_unsigned w64 row.1)),
      length-append row.0 (to_be_bytes w64 (cast_unsigned w64 row.1)),
      each_row rows,
      two,
      eight,
    )

all_rows : (rows : List Pair) → length (rows_spelling rows) ≡ 4 + size_by pair_key rows
all_rows rows =
    let four : length (to_be_bytes w32 (length rows)) ≡ 4 = refl in
    omega (arith, length-append (to_be_bytes w32 (length rows)) (flat_map row_spelling rows), each_row rows, four)

as_rows : (tuples : List Tuple) → size_by pair_key (map row_of tuples) ≡ size_by tuple_key tuples
as_rows [] = refl
as_rows (t ∷ tuples) = omega (arith, as_rows tuples)

-- fourteen bytes more than the progress is large
pub spelled_length : (g : Progress) → length (second_spelling g) ≡ 14 + progress_size g
spelled_length g =
    omega (
      arith,
      length-append (rows_spelling g.state) (rows_spelling (left_rows g) ++ rows_spelling (right_rows g)),
      length-append (rows_spelling (left_rows g)) (rows_spelling (right_rows g)),
      all_rows g.state,
      all_rows (left_rows g),
      all_rows (right_rows g),
      as_rows g.left,
      as_rows g.right,
    )

-- the bytes of a progress that isn't large
pub spelled_small : (g : Progress) (bytes : List ℕ) → progress_size g < 4294967232 → bytes ≡ second_spelling g → length bytes < 4294967280
spelled_small g bytes small is = omega (arith, small, spelled_length g, ap (λ (bs : List ℕ). length bs) is)
