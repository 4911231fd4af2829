-- The tuples among messages.
use Rattle.std.specs.Prelude.{◌≡◌, ℕ, List, [], ◌∷◌, ◌++◌, filter, ◌==◌}
use Rattle.apx_codec.specs.KeyNumber.{owner_of}
use Rattle.apx_tuple.specs.declared.tuple.Tuple.{Tuple}
use Rattle.apx_wire.specs.declared.message.Message.{Message}
use Rattle.apx_wire.specs.declared.message.Message.TheVariants.{Payload, Begin, End, Checkpoint, Reset, EndOfStream}
use Rattle.apx_wire.specs.Spelling.{IsMessage, spelling, spellings}
use Rattle.apx_list.specs.Block.{AreMessages}

-- the tuples of the payloads among messages
abbrev pub tuples_of : List Message → List Tuple
tuples_of [] = []
tuples_of (Payload t ∷ messages) = t ∷ tuples_of messages
tuples_of (Begin _ ∷ messages) = tuples_of messages
tuples_of (End _ ∷ messages) = tuples_of messages
tuples_of (Checkpoint _ ∷ messages) = tuples_of messages
tuples_of (Reset _ ∷ messages) = tuples_of messages
tuples_of (EndOfStream ∷ messages) = tuples_of messages

-- the tuples whose keys part i of n owns
abbrev pub owned : ℕ → ℕ → List Tuple → List Tuple
owned n i tuples = filter (λ t. owner_of n t.key == i) tuples

-- the tuples that part i of n owns among messages
abbrev pub owned_of : ℕ → ℕ → List Message → List Tuple
owned_of n i messages = owned n i (tuples_of messages)

-- the bytes are those of messages
abbrev pub IsSpelled : List ℕ → Type 0
IsSpelled bytes = (messages : List Message) × AreMessages messages × (bytes ≡ spellings messages)

-- the bytes begin with a message
abbrev pub Begins : List ℕ → Type 0
Begins bytes = (m : Message) × (rest : List ℕ) × IsMessage m × (bytes ≡ spelling m ++ rest)

-- Of these messages some are left, spelled by the rest, and the tuples that part i of n owns among the others
-- stand behind the old ones.
pub record IsLeft (n i : ℕ) (old : List Tuple) (messages : List Message) (new : List Tuple) (rest : List ℕ) : Type 0 where
  -- the messages that are left
  pub left : List Message
  -- each fits its spelling
  pub whole : AreMessages left
  -- the rest is their bytes
  pub bytes : rest ≡ spellings left
  -- the tuples of the others stand behind the old ones
  pub tuples : new ++ owned_of n i left ≡ old ++ owned_of n i messages
