-- How bytes are judged to spell a block: what opens the window, tuples, and what closes it.
use Rattle.std.specs.Prelude.{◌≡◌, ◌≢◌, ℕ, ◌-◌, List, [], ◌∷◌, ◌++◌, length, map, Bool, true, not, Option, Some, None, slice_get, ◌==◌, if◌then◌else◌}
use Rattle.std.specs.Ordering.{is_gt}
use Rattle.apx_order.specs.Sorted.{IsAscending}
use Rattle.apx_tuple.specs.declared.tuple.Tuple.{Tuple}
use Rattle.apx_tuple.specs.Tuple.{tuple_order}
use Rattle.apx_wire.specs.declared.message.Message.{Message}
use Rattle.apx_wire.specs.declared.message.Message.TheVariants.{Payload}
use Rattle.apx_wire.specs.Spelling.{IsTuple, spelling, spellings}
use Rattle.apx_list.specs.declared.plan.CutPlan.{CutPlan}
use Rattle.apx_list.specs.declared.block.Marks.{Marks}
use Rattle.apx_list.specs.declared.block.Block.{Block}
use Rattle.apx_list.specs.Block.{AreSome, AreMessages}
use Rattle.apx_list.specs.Messages.{opening}

-- the block with these marks and bytes
abbrev pub block_with : Marks → List ℕ → Block
block_with marks bytes = record { window = marks.window; index = marks.index; last = marks.last; bytes = bytes }

-- what a block says beside its bytes
abbrev pub marks_of : Block → Marks
marks_of block = record { window = block.window; index = block.index; last = block.last }

-- the messages in front of a block's tuples: those that open the window, in block 0 alone
abbrev pub front_messages : CutPlan → Marks → List Message
front_messages plan marks = if marks.index == 0 then opening plan marks.window else []

-- the bytes don't begin with these
abbrev pub Lacks : (front bytes : List ℕ) → Type 0
Lacks front bytes = (rest : List ℕ) → bytes ≡ front ++ rest → ⊥

-- a tuple may come behind the latest one
abbrev pub may_come : Option Tuple → Tuple → Bool
may_come None tuple = true
may_come (Some latest) tuple = not (is_gt (tuple_order latest tuple))

-- the bytes are those of a tuple, and behind them the rest
pub record BeginsWithTuple (bytes : List ℕ) (tuple : Tuple) (rest : List ℕ) : Type 0 where
  -- the tuple fits its spelling
  pub fits : IsTuple tuple
  -- its bytes stand in front
  pub bytes_are : bytes ≡ spelling (Payload tuple) ++ rest

-- the bytes are those of tuples in ascending order, and behind them of a rest that begins with no tuple
pub record Divides (bytes : List ℕ) (tuples : List Tuple) (rest : List ℕ) : Type 0 where
  -- no tuple is below the one before it
  pub ascends : IsAscending tuple_order tuples
  -- each tuple fits its spelling
  pub whole : AreMessages (map Payload tuples)
  -- their bytes stand in front
  pub bytes_are : bytes ≡ spellings (map Payload tuples) ++ rest
  -- the rest begins with no type byte of a tuple
  pub behind : slice_get rest 0 ≢ Some 1

-- the bytes are divided so with some tuples
abbrev pub IsDivided : (bytes rest : List ℕ) → Type 0
IsDivided bytes rest = (tuples : List Tuple) × Divides bytes tuples rest

-- The bytes are those of some of the messages, in their order, and where the mark is set the last of them is there.
pub record Ends (messages : List Message) (last : Bool) (bytes : List ℕ) : Type 0 where
  -- the messages that are there
  pub ends : List Message
  -- they are some of the messages
  pub closes : AreSome ends messages
  -- where the mark is set the last one is there
  pub last_is : last ≡ true → slice_get ends (length ends - 1) ≡ slice_get messages (length messages - 1)
  -- the bytes are theirs
  pub bytes_are : bytes ≡ spellings ends

-- none of the messages has the type byte of this one
abbrev pub AreOthers : Message → List Message → Type 0
AreOthers m [] = Unit {0}
AreOthers m (k ∷ messages) = (slice_get (spelling m) 0 ≢ slice_get (spelling k) 0) × AreOthers m messages

-- no two of the messages have one type byte
abbrev pub AreApart : List Message → Type 0
AreApart [] = Unit {0}
AreApart (m ∷ messages) = AreOthers m messages × AreApart messages
