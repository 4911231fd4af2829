-- What a reader that goes from left to right makes of bytes that begin with a message's type byte, at a
-- place in the stream: the message and how many bytes it has; nothing, while it isn't whole and there is
-- nothing wrong with what has come of it; or what is wrong, as soon as it shows.
use Rattle.std.specs.Prelude.{◌≡◌, ℕ, ◌+◌, List, [], ◌∷◌, length, take, drop, Option, Some, None, Result, Ok, Err, nat_lt, ◌==◌, not, if◌then◌else◌}
use Rattle.std.specs.Option.{option_map}
use Rattle.std.specs.Int.{Width, byte_len, w16, w32, w64, from_be_bytes, cast_signed}
use Rattle.apx_codec.specs.KeyNumber.{hash_of}
use Rattle.apx_tuple.specs.declared.tuple.Tuple.{Tuple}
use Rattle.apx_wire.specs.declared.message.Message.{Message}
use Rattle.apx_wire.specs.declared.message.Message.TheVariants.{Payload, Begin, End, Checkpoint, Reset, EndOfStream}
use Rattle.apx_wire.specs.Spelling.{spelling}
use Rattle.apx_wire.specs.declared.fault.WireFault.{WireFault}
use Rattle.apx_wire.specs.declared.fault.WireFault.TheVariants.{BadType, BadKey, BadNumber, BadOrder, Memory}

-- the fields of a payload behind its type byte
abbrev pub number_in : List ℕ → ℕ
number_in bytes = from_be_bytes w32 (take 4 bytes)

-- the length of a payload's key
abbrev pub key_length_in : List ℕ → ℕ
key_length_in bytes = from_be_bytes w16 (take 2 (drop 4 bytes))

-- a payload's key
abbrev pub key_in : List ℕ → List ℕ
key_in bytes = take (key_length_in bytes) (drop 6 bytes)

-- a payload's tuple
abbrev pub tuple_in : List ℕ → Tuple
tuple_in bytes = record {
  key = key_in bytes;
  value = cast_signed w64 (from_be_bytes w64 (take 8 (drop (6 + key_length_in bytes) bytes)));
}

-- The length is judged once both its bytes are there, the number once the key is whole.
unfoldable pub payload_judged : ℕ → List ℕ → Result (Option (Message × ℕ)) WireFault
payload_judged place bytes =
    if nat_lt (length bytes) 6 then Ok None else
    if nat_lt 1024 (key_length_in bytes) then Err (BadKey place) else
    if nat_lt (length bytes) (6 + key_length_in bytes) then Ok None else
    if not (hash_of (key_in bytes) == number_in bytes) then Err (BadNumber place) else
    if nat_lt (length bytes) (14 + key_length_in bytes) then Ok None else
    Ok (Some (Payload (tuple_in bytes), 15 + key_length_in bytes))

-- a number behind the type byte, once it is there
abbrev pub field_in : Width → List ℕ → Option ℕ
field_in w bytes = if nat_lt (length bytes) (byte_len w) then None else Some (from_be_bytes w (take (byte_len w) bytes))

-- what a reader from left to right makes of bytes: a message, nothing yet, or what is wrong
unfoldable pub judged : ℕ → List ℕ → Result (Option (Message × ℕ)) WireFault
judged place [] = Ok None
judged place (kind ∷ bytes) =
    if kind == 1 then payload_judged place bytes else
    if kind == 2 then Ok (option_map (λ id. (Begin id, 9)) (field_in w64 bytes)) else
    if kind == 3 then Ok (option_map (λ id. (End id, 9)) (field_in w64 bytes)) else
    if kind == 4 then Ok (option_map (λ id. (Checkpoint id, 9)) (field_in w64 bytes)) else
    if kind == 5 then Ok (option_map (λ second. (Reset second, 5)) (field_in w32 bytes)) else
    if kind == 6 then Ok (Some (EndOfStream, 1)) else
    Err (BadType place)

-- The number and the length of a payload, read from the front of its bytes before its key is; nothing where
-- the bytes begin with no payload's type byte or its length isn't there.
abbrev pub payload_head : List ℕ → Option (ℕ × ℕ)
payload_head [] = None
payload_head (kind ∷ bytes) =
    if not (kind == 1) then None else
    if nat_lt (length bytes) 6 then None else
    Some (number_in bytes, 15 + key_length_in bytes)

-- the number and the length of a message that is a payload
abbrev pub head_of : Message → Option (ℕ × ℕ)
head_of (Payload t) = Some (hash_of t.key, length (spelling (Payload t)))
head_of (Begin _) = None
head_of (End _) = None
head_of (Checkpoint _) = None
head_of (Reset _) = None
head_of EndOfStream = None

-- p holds, unless memory ran out
abbrev pub UnlessMemory : WireFault → Type 0 → Type 0
UnlessMemory Memory p = Unit {0}
UnlessMemory (BadType _) p = p
UnlessMemory (BadKey _) p = p
UnlessMemory (BadNumber _) p = p
UnlessMemory (BadOrder _) p = p

-- what a reader returned is what the bytes are judged to be, unless memory ran out
abbrev pub GivesMessage : {X : Type 0} → Result X WireFault → Result X WireFault → Type 0
GivesMessage (Ok x) judgement = judgement ≡ Ok x
GivesMessage (Err fault) judgement = UnlessMemory fault (judgement ≡ Err fault)
