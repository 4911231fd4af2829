-- A stream of messages that comes in pieces.
--     Decodes stream handed d       d has taken the stream, and handed out these messages
--     Rejects stream fault          the fault is the first thing that is wrong with the stream
--     Settles old new               a decoder has read the whole messages at the front of its rest
use Rattle.std.specs.Prelude.{◌≡◌, ℕ, ◌+◌, ◌-◌, List, [], ◌∷◌, ◌++◌, length, Option, Some, None, Ok, Err, false, ◌⊎◌}
use Rattle.apx_wire.specs.declared.message.Message.{Message}
use Rattle.apx_wire.specs.declared.fault.WireFault.{WireFault}
use Rattle.apx_wire.specs.declared.fault.WireFault.TheVariants.{BadOrder}
use Rattle.apx_wire.specs.Spelling.{spellings}
use Rattle.apx_wire.specs.Judging.{judged}
use Rattle.apx_wire.specs.Order.{Before, beginning, with_messages, may_follow, AreInOrder}

-- a decoder
pub record Decoding : Type 0 where
  -- the messages that it holds, the earliest first
  pub held : List Message
  -- the bytes behind them
  pub rest : List ℕ
  -- what the order looks at in the messages that it has read
  pub before : Before
  -- how many bytes it has taken
  pub fed : ℕ

-- nothing, or the front of one message that isn't whole, with nothing wrong in it
abbrev pub IsUnfinished : List ℕ → Type 0
IsUnfinished bytes = (place : ℕ) → judged place bytes ≡ Ok None

-- a decoder has taken the stream, and handed out these messages of it
pub record Decodes (stream : List ℕ) (handed : List Message) (d : Decoding) : Type 0 where
  -- the stream is the messages handed out, those held, and the rest
  pub bytes : stream ≡ spellings (handed ++ d.held) ++ d.rest
  -- the messages are in order
  pub in_order : AreInOrder beginning (handed ++ d.held)
  -- what the order looks at is what they leave
  pub before : d.before ≡ with_messages beginning (handed ++ d.held)
  -- the rest is no whole message, and nothing is wrong with it
  pub unfinished : IsUnfinished d.rest
  -- and all bytes of the stream were taken
  pub fed : d.fed ≡ length stream

-- What is wrong with bytes that come behind these: the first message isn't one, or it is out of order.
abbrev pub IsWrong : Before → ℕ → List ℕ → WireFault → Type 0
IsWrong before place bytes fault =
    (judged place bytes ≡ Err fault)
    ⊎ ((m : Message) × (n : ℕ) × (judged place bytes ≡ Ok (Some (m, n))) × (may_follow before m ≡ false) × (fault ≡ BadOrder place))

-- the fault is the first thing that is wrong with bytes that come behind what came up to a place
pub record RejectsFrom (before : Before) (place : ℕ) (bytes : List ℕ) (fault : WireFault) : Type 0 where
  -- the messages with which nothing is wrong
  pub messages : List Message
  -- the bytes behind them
  pub tail : List ℕ
  -- these are all the bytes
  pub whole : bytes ≡ spellings messages ++ tail
  -- the messages are in order
  pub in_order : AreInOrder before messages
  -- and this is wrong with what comes behind them
  pub wrong : IsWrong (with_messages before messages) (place + length (spellings messages)) tail fault

-- the fault is the first thing that is wrong with the stream
abbrev pub Rejects : List ℕ → WireFault → Type 0
Rejects stream fault = RejectsFrom beginning 0 stream fault

-- The message right before, behind some messages.
abbrev pub latest_after : Option Message → List Message → Option Message
latest_after latest [] = latest
latest_after latest (m ∷ ms) = latest_after (Some m) ms

-- a reader that goes on as long as a whole message comes reads these messages of the bytes, and leaves the rest
pub record ReadsTo (before : Before) (bytes : List ℕ) (messages : List Message) (rest : List ℕ) : Type 0 where
  -- the bytes are the messages and the rest
  pub whole : bytes ≡ spellings messages ++ rest
  -- the messages are in order behind what came before
  pub in_order : AreInOrder before messages
  -- the rest is no whole message, and nothing is wrong with it
  pub unfinished : IsUnfinished rest

-- a decoder has read the whole messages at the front of its rest
pub record Settles (old new : Decoding) : Type 0 where
  -- these are the messages
  pub messages : List Message
  -- it holds them behind those that it held
  pub held : new.held ≡ old.held ++ messages
  -- they are read of its rest, up to what is its rest now
  pub reads : ReadsTo old.before old.rest messages new.rest
  -- what the order looks at is what they leave
  pub before : new.before ≡ with_messages old.before messages
  -- and no byte more was taken
  pub fed : new.fed ≡ old.fed

-- what is wrong with the bytes behind the messages that a decoder has read
abbrev pub RejectsRest : Decoding → WireFault → Type 0
RejectsRest d fault = RejectsFrom d.before (d.fed - length d.rest) d.rest fault
