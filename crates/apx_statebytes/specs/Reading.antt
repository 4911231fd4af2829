-- What a reader from left to right makes of bytes: the progress, or the place where they are refused, counted from 0.
-- Total is how many bytes there are in all, so that what is left tells the place; room is what the size of the
-- progress has yet to stay below.
use Rattle.std.specs.Prelude.{◌≡◌, ℕ, zero, suc, ◌+◌, ◌-◌, List, [], ◌∷◌, length, take, drop, map, Bool, true, false, not, Option, Some, None, Result, Ok, Err, nat_lt, nat_le, ◌==◌, if◌then◌else◌}
use Rattle.std.specs.Int.{Width, byte_len, w16, w32, w64, from_be_bytes, cast_signed}
use Rattle.apx_tuple.specs.declared.progress.Progress.{Progress}
use Rattle.apx_tuple.specs.State.{Pair}
use Rattle.apx_statebytes.specs.declared.fault.StateFault.{StateFault}
use Rattle.apx_statebytes.specs.declared.fault.StateFault.TheVariants.{Bad, Memory}
use Rattle.apx_statebytes.specs.Rows.{tuple_of, key_may_follow, row_may_follow}

infixl 10 ◌>>=◌
-- a step, and another one on what it gave; the first refusal stays
abbrev pub ◌>>=◌ : {A B : Type 0} → Result A ℕ → (A → Result B ℕ) → Result B ℕ
(Ok x) >>= f = f x
(Err place) >>= f = Err place

-- why a function gave nothing is why reading does, unless memory ran out
abbrev pub Refuses : {Y : Type 0} → StateFault → Result Y ℕ → Type 0
Refuses Memory read = Unit {0}
Refuses (Bad at) read = read ≡ Err at

-- what a function returned, seen by view, is what reading gives, unless memory ran out
abbrev pub Gives : {X Y : Type 0} → (X → Y) → Result X StateFault → Result Y ℕ → Type 0
Gives view (Ok x) read = read ≡ Ok (view x)
Gives view (Err fault) read = Refuses fault read

-- A number and the bytes behind it. Where a field isn't whole, the place is the end.
abbrev pub number_at : Width → ℕ → List ℕ → Result (ℕ × List ℕ) ℕ
number_at w total bytes =
    if nat_lt (length bytes) (byte_len w) then Err total else Ok (from_be_bytes w (take (byte_len w) bytes), drop (byte_len w) bytes)

-- A key behind its length. A length that is too long, or that leaves no room, is refused at its place.
unfoldable pub key_at : ℕ → ℕ → List ℕ → Result (List ℕ × List ℕ) ℕ
key_at total room bytes = do
  len ← number_at w16 total bytes
  if nat_lt 1024 len.0 then Err (total - length bytes) else
      if nat_le room (len.0 + 10) then Err (total - length bytes) else
      if nat_lt (length len.1) len.0 then Err total else
      Ok (take len.0 len.1, drop len.0 len.1)

-- The row with this key and the value at the front. One that is below the row before it is refused at the row's place.
unfoldable pub row_behind : Bool → ℕ → ℕ → Option Pair → List ℕ → List ℕ → Result (Pair × List ℕ) ℕ
row_behind each_once total place before key bytes = do
  value ← number_at w64 total bytes
  if row_may_follow each_once before (key, cast_signed w64 value.0)
      then Ok ((key, cast_signed w64 value.0), value.1)
      else Err place

-- A row. A key that may not come is refused at the row's place, before its value is read.
unfoldable pub row_at : Bool → ℕ → ℕ → Option Pair → List ℕ → Result (Pair × List ℕ) ℕ
row_at each_once total room before bytes = do
  key ← key_at total room bytes
  if key_may_follow each_once before key.0
      then row_behind each_once total (total - length bytes) before key.0 key.1
      else Err (total - length bytes)

-- so many rows, the room behind them, and the bytes behind them
unfoldable pub rows_at : Bool → ℕ → ℕ → ℕ → Option Pair → List ℕ → Result (List Pair × ℕ × List ℕ) ℕ
rows_at each_once total zero room before bytes = Ok ([], room, bytes)
rows_at each_once total (suc count) room before bytes = do
  row ← row_at each_once total room before bytes
  others ← rows_at each_once total count (room - (length row.0.0 + 10)) (Some row.0) row.1
  Ok (row.0 ∷ others.0, others.1, others.2)

-- how many rows there are, and the rows
unfoldable pub rows_of : Bool → ℕ → ℕ → List ℕ → Result (List Pair × ℕ × List ℕ) ℕ
rows_of each_once total room bytes = do
  count ← number_at w32 total bytes
  rows_at each_once total count.0 room None count.1

-- Spelling 1. What is left over is refused at its first byte.
unfoldable pub first_form : ℕ → List ℕ → Result Progress ℕ
first_form total bytes = do
  state ← rows_of true total 4294967232 bytes
  if length state.2 == 0
      then Ok (record { state = state.0; left = []; right = [] })
      else Err (total - length state.2)

-- spelling 2 behind its number
unfoldable pub second_form : ℕ → List ℕ → Result Progress ℕ
second_form total bytes = do
  state ← rows_of true total 4294967232 bytes
  left ← rows_of false total state.1 state.2
  right ← rows_of false total left.1 left.2
  if length right.2 == 0
      then Ok (record { state = state.0; left = map tuple_of left.0; right = map tuple_of right.0 })
      else Err (total - length right.2)

-- the bytes behind the mark: the number of a spelling, which has to be 2
abbrev pub marked_form : ℕ → List ℕ → Result Progress ℕ
marked_form total [] = Err 1
marked_form total (number ∷ bytes) = if number == 2 then second_form total bytes else Err 1

-- the bytes of a progress: in spelling 2 where they begin with the mark, else in spelling 1
abbrev pub progress_in : List ℕ → Result Progress ℕ
progress_in [] = first_form 0 []
progress_in (first ∷ bytes) =
    if first == 255
    then marked_form (length (first ∷ bytes)) bytes
    else first_form (length (first ∷ bytes)) (first ∷ bytes)
