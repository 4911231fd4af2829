-- The one spelling of each message, and of messages in a row.
--     IsMessage m     m fits the fields of its spelling
--     spelling m      its bytes: a type byte and the fields, numbers big-endian
--     spellings ms    the bytes of messages, one behind the other
--     BeginsWith bytes m n     the bytes begin with m, which has n of them
use Rattle.std.specs.Prelude.{◌≡◌, ℕ, ◌^◌, ◌<◌, ◌≤◌, List, [], ◌∷◌, ◌++◌, length, drop, slice_index, FitsSigned}
use Rattle.std.specs.List.{flat_map}
use Rattle.std.specs.Int.{w16, w32, w64, to_be_bytes, cast_unsigned}
use Rattle.apx_codec.specs.KeyNumber.{hash_of}
use Rattle.apx_tuple.specs.declared.tuple.Tuple.{Tuple}
use Rattle.apx_wire.specs.declared.message.Message.{Message}
use Rattle.apx_wire.specs.declared.message.Message.TheVariants.{Payload, Begin, End, Checkpoint, Reset, EndOfStream}

-- each member is a byte
abbrev pub AreBytes : List ℕ → Type 0
AreBytes bytes = (i : ℕ) → slice_index bytes i < 256

-- the tuple fits the fields of a payload
pub record IsTuple (t : Tuple) : Type 0 where
  -- its key is of bytes
  pub bytes : AreBytes t.key
  -- at most 1,024 of them
  pub short : length t.key ≤ 1024
  -- and its value is a number of 64 bits with a sign
  pub value : FitsSigned w64 t.value

-- what has a spelling
abbrev pub IsMessage : Message → Type 0
IsMessage (Payload t) = IsTuple t
IsMessage (Begin id) = id < 2 ^ 64
IsMessage (End id) = id < 2 ^ 64
IsMessage (Checkpoint id) = id < 2 ^ 64
IsMessage (Reset second) = second < 2 ^ 32
IsMessage EndOfStream = Unit {0}

-- a key's number, the length of the key, the key, and the value in two's complement
abbrev pub tuple_spelling : Tuple → List ℕ
tuple_spelling t =
    to_be_bytes w32 (hash_of t.key) ++ (to_be_bytes w16 (length t.key) ++ (t.key ++ to_be_bytes w64 (cast_unsigned w64 t.value)))

-- a message's bytes: a type byte and the fields, numbers big-endian
abbrev pub spelling : Message → List ℕ
spelling (Payload t) = 1 ∷ tuple_spelling t
spelling (Begin id) = 2 ∷ to_be_bytes w64 id
spelling (End id) = 3 ∷ to_be_bytes w64 id
spelling (Checkpoint id) = 4 ∷ to_be_bytes w64 id
spelling (Reset second) = 5 ∷ to_be_bytes w32 second
spelling EndOfStream = 6 ∷ []

-- the bytes of messages, one behind the other
abbrev pub spellings : List Message → List ℕ
spellings ms = flat_map spelling ms

-- the bytes begin with the message, which has n of them
pub record BeginsWith (bytes : List ℕ) (m : Message) (n : ℕ) : Type 0 where
  -- it has a spelling
  pub message : IsMessage m
  -- its spelling stands at the front of the bytes
  pub whole : bytes ≡ spelling m ++ drop n bytes
  -- and has n bytes
  pub len : n ≡ length (spelling m)
