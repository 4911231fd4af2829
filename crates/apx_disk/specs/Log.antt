-- What a file spells: records behind open gates, up to a closed one.
-- A gate is a byte. It is open where it is 1 and a byte follows it. Behind an open gate stand the length of a body in
-- four bytes, big-endian, the body, and the next gate.
use Rattle.std.specs.Prelude.{◌≡◌, ◌⊎◌, ℕ, zero, suc, ◌+◌, ◌<◌, Bool, false, List, [], ◌∷◌, ◌++◌, length, take, drop, slice_index, Option, Some, None, Result, Ok, Err, nat_le, ◌==◌, if◌then◌else◌}
use Rattle.std.specs.Int.{w32, to_be_bytes, from_be_bytes}
use Rattle.apx_disk.specs.Disk.{Only}

-- a record: the place of its gate, and its body
pub record Entry : Type 0 where
  -- the place of the gate
  pub gate : ℕ
  -- the bytes of the body
  pub body : List ℕ

-- the records of a file, and the place of the closed gate behind them
pub record Log : Type 0 where
  -- the records in order
  pub entries : List Entry
  -- the place of the closed gate
  pub end : ℕ

-- no records: the closed gate stands here
abbrev pub ended : ℕ → Log
ended place = record { entries = []; end = place }

-- one record more in front
abbrev pub joined : Entry → Result Log ℕ → Result Log ℕ
joined entry (Ok log) = Ok (record { entries = entry ∷ log.entries; end = log.end })
joined entry (Err place) = Err place

-- the gate at the front is open
abbrev pub is_open : List ℕ → Bool
is_open (gate ∷ next ∷ rest) = gate == 1
is_open bytes = false

-- the length that stands behind the gate at the front
abbrev pub body_length : List ℕ → ℕ
body_length bytes = from_be_bytes w32 (take 4 (drop 1 bytes))

-- a body of that length and the next gate are there
abbrev pub is_whole : List ℕ → Bool
is_whole bytes = nat_le (body_length bytes + 6) (length bytes)

-- the records from a gate on, which stands at a place; Err is the place of an open gate without a whole record behind it.
-- The first number is at least how many bytes there are.
abbrev pub read_from : ℕ → ℕ → List ℕ → Result Log ℕ
read_from zero place bytes = Ok (ended place)
read_from (suc more) place bytes =
    if is_open bytes
    then (if is_whole bytes
    then joined (record { gate = place; body = take (body_length bytes) (drop 5 bytes) })
    (read_from more (place + (body_length bytes + 5)) (drop (body_length bytes + 5) bytes))
    else Err place)
    else Ok (ended place)

-- what the file spells
abbrev pub read_log : List ℕ → Result Log ℕ
read_log file = read_from (length file) 0 file

-- the place of the closed gate, where the file spells records
abbrev pub end_of : Result Log ℕ → Option ℕ
end_of (Ok log) = Some log.end
end_of (Err place) = None

-- one record more at the end
abbrev pub with_record : List ℕ → Result Log ℕ → Result Log ℕ
with_record body (Ok log) =
    Ok (record { entries = log.entries ++ record { gate = log.end; body = body } ∷ []; end = log.end + (length body + 5) })
with_record body (Err place) = Err place

-- what stands behind the gate of a record: the length of the body, the body, and a closed gate
abbrev pub spelled_behind : List ℕ → List ℕ
spelled_behind body = to_be_bytes w32 (length body) ++ body ++ 0 ∷ []

-- an image spells what the file does, or one record more
abbrev pub Grows : List ℕ → List ℕ → List ℕ → Type 0
Grows file body image = (read_log image ≡ read_log file) ⊎ (read_log image ≡ with_record body (read_log file))

-- an image spells what one of these does
abbrev pub SpellsOne : (List ℕ → Type 0) → List ℕ → Type 0
SpellsOne images image = (other : List ℕ) × images other × (read_log image ≡ read_log other)

-- the file spells records, whose closed gate is 0 and stands here, and a crash now leaves the file alone
pub record IsReady (file : List ℕ) (images : List ℕ → Type 0) (gate : ℕ) : Type 0 where
  -- the closed gate stands at this place
  pub end : end_of (read_log file) ≡ Some gate
  -- it is 0
  pub shut : slice_index file gate ≡ 0
  -- it is there
  pub within : gate < length file
  -- a crash leaves the file as it is
  pub only : Only file images
