-- Reading rows one after the other, as a loop does.
use Rattle.std.proofs.Common.{◌≡◌, ℕ, zero, suc, ◌+◌, ◌-◌, ◌<◌, ◌≤◌, Bool, List, [], ◌∷◌, ◌++◌, length, Option, Some, None, Result, Ok, Err, slice_get, refl, sym, ap, ◌∙◌, append_assoc, arith}
use Rattle.std.proofs.lemmas.List.{append-nil}
use Rattle.apx_tuple.specs.State.{Pair}
use Rattle.apx_statebytes.specs.declared.fault.StateFault.{StateFault}
use Rattle.apx_statebytes.specs.declared.fault.StateFault.TheVariants.{Bad, Memory}
use Rattle.apx_statebytes.specs.Reading.{◌>>=◌, Refuses, row_at, rows_at}

abbrev pub RowsRead : Type 0
RowsRead = Result (List Pair × ℕ × List ℕ) ℕ

-- rows that were read before, and those that are still read
abbrev pub with_front : List Pair → RowsRead → RowsRead
with_front front read = read >>= λ x. Ok (front ++ x.0, x.1, x.2)

pub with_none : (read : RowsRead) → with_front [] read ≡ read
with_none (Ok x) = refl
with_none (Err place) = refl

abbrev pub last_row : List Pair → Option Pair
last_row rows = slice_get rows (length rows - 1)

slice_get-end : (rows : List Pair) (row : Pair) → slice_get (rows ++ row ∷ []) (length rows) ≡ Some row
slice_get-end [] row = refl
slice_get-end (x ∷ rows) row = slice_get-end rows row

pub last_row-push : (rows : List Pair) (row : Pair) → last_row (rows ++ row ∷ []) ≡ Some row
last_row-push rows row =
    let at : length (rows ++ row ∷ []) - 1 ≡ length rows = omega (arith, length-push rows row) in
    ap (slice_get (rows ++ row ∷ [])) at ∙ slice_get-end rows row
  where
    length-push : (rows : List Pair) (row : Pair) → length (rows ++ row ∷ []) ≡ length rows + 1
    length-push [] row = refl
    length-push (x ∷ rows) row = omega (arith, length-push rows row)

regroup : (front : List Pair) (row : Pair) (read : RowsRead) → with_front front (read >>= λ x. Ok (row ∷ x.0, x.1, x.2)) ≡ with_front (front ++ row ∷ []) read
regroup front row (Ok x) = ap (λ (rows : List Pair). Ok (rows, x.1, x.2)) (sym (append_assoc front (row ∷ []) x.0))
regroup front row (Err place) = refl

pub goes_on : (each_once : Bool) (total count i room : ℕ) (front : List Pair) (bytes : List ℕ) (row : Pair) (behind : List ℕ) (whole : RowsRead) → i < count → row_at each_once total room (last_row front) bytes ≡ Ok (row, behind)
    → with_front front (rows_at each_once total (count - i) room (last_row front) bytes) ≡ whole → with_front (front ++ row ∷ []) (rows_at each_once total (count - (i + 1)) (room - (length row.0 + 10)) (last_row (front ++ row ∷ [])) behind) ≡ whole
unfolding rows_at
goes_on each_once total count i room front bytes row behind whole lt h so_far =
    let k : count - i ≡ suc (count - (i + 1)) = omega arith in
    let one : with_front front (rows_at each_once total (count - i) room (last_row front) bytes) ≡ with_front (front ++ row ∷ []) (rows_at each_once total (count - (i + 1)) (room - (length row.0 + 10)) (Some row) behind) = rw (k, h) (regroup front row (rows_at each_once total (count - (i + 1)) (room - (length row.0 + 10)) (Some row) behind)) in
    ap (λ (o : Option Pair). with_front (front ++ row ∷ []) (rows_at each_once total (count - (i + 1)) (room - (length row.0 + 10)) o behind)) (last_row-push front row) ∙ (sym one ∙ so_far)

pub stops : (fault : StateFault) (each_once : Bool) (total count i room : ℕ) (front : List Pair) (bytes : List ℕ) (whole : RowsRead) → i < count → Refuses fault (row_at each_once total room (last_row front) bytes)
    → with_front front (rows_at each_once total (count - i) room (last_row front) bytes) ≡ whole → Refuses fault whole
unfolding rows_at
stops Memory each_once total count i room front bytes whole lt h so_far = tt
stops (Bad at) each_once total count i room front bytes whole lt h so_far =
    let k : count - i ≡ suc (count - (i + 1)) = omega arith in
    let one : with_front front (rows_at each_once total (count - i) room (last_row front) bytes) ≡ Err at = rw (k, h) refl in
    sym so_far ∙ one

pub is_done : (each_once : Bool) (total count i room : ℕ) (front : List Pair) (bytes : List ℕ) (whole : RowsRead) → count ≤ i → with_front front (rows_at each_once total (count - i) room (last_row front) bytes) ≡ whole → whole ≡ Ok (front, room, bytes)
unfolding rows_at
is_done each_once total count i room front bytes whole le so_far =
    let k : count - i ≡ 0 = omega arith in
    let one : with_front front (rows_at each_once total (count - i) room (last_row front) bytes) ≡ Ok (front, room, bytes) = rw k (ap (λ (rows : List Pair). Ok (rows, room, bytes)) (append-nil front)) in
    sym so_far ∙ one
