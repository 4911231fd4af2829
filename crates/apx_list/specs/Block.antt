-- When bytes spell a block of this window, index and last mark.
use Rattle.std.specs.Prelude.{◌≡◌, ◌-◌, ◌<◌, List, [], ◌∷◌, ◌++◌, length, map, true, slice_get, ◌==◌, if◌then◌else◌, ◌⊎◌}
use Rattle.apx_order.specs.Sorted.{IsAscending}
use Rattle.apx_tuple.specs.declared.tuple.Tuple.{Tuple}
use Rattle.apx_tuple.specs.Tuple.{tuple_order}
use Rattle.apx_wire.specs.declared.message.Message.{Message}
use Rattle.apx_wire.specs.declared.message.Message.TheVariants.{Payload}
use Rattle.apx_wire.specs.Spelling.{spellings, IsMessage}
use Rattle.apx_list.specs.declared.plan.CutPlan.{CutPlan}
use Rattle.apx_list.specs.declared.block.Block.{Block}
use Rattle.apx_list.specs.Messages.{opening, closing}

-- some of the messages, in their order
abbrev pub AreSome : List Message → List Message → Type 0
AreSome [] all = Unit {0}
AreSome (m ∷ some) [] = ⊥
AreSome (m ∷ some) (first ∷ all) = ((m ≡ first) × AreSome some all) ⊎ AreSome (m ∷ some) all

-- each fits its spelling
abbrev pub AreMessages : List Message → Type 0
AreMessages [] = Unit {0}
AreMessages (m ∷ messages) = IsMessage m × AreMessages messages

-- a block's messages: what opens the window in block 0 alone, tuples, and messages that close the window
abbrev pub block_messages : CutPlan → Block → List Tuple → List Message → List Message
block_messages plan block tuples ends = (if block.index == 0 then opening plan block.window else []) ++ map Payload tuples ++ ends

-- The bytes are those of one message or more: these tuples, none of them below the one before it, and some
-- of the messages that close the window, in their order, up to the last one where the block is the last.
pub record Spells (plan : CutPlan) (block : Block) : Type 0 where
  -- the tuples of its payloads
  pub tuples : List Tuple
  -- what closes the window, as far as it stands in this block
  pub ends : List Message
  -- no tuple is below the one before it
  pub ascends : IsAscending tuple_order tuples
  -- what closes is some of what closes the window
  pub closes : AreSome ends (closing plan block.window)
  -- the last block ends with the last message of its window
  pub last : block.last ≡ true →
      slice_get ends (length ends - 1) ≡ slice_get (closing plan block.window) (length (closing plan block.window) - 1)
  -- there is a message
  pub some : 0 < length (block_messages plan block tuples ends)
  -- each message fits its spelling
  pub whole : AreMessages (block_messages plan block tuples ends)
  -- the bytes are those of its messages
  pub bytes : block.bytes ≡ spellings (block_messages plan block tuples ends)

-- the bytes spell what the block says, under some plan
abbrev pub IsBlock : Block → Type 0
IsBlock block = (plan : CutPlan) × Spells plan block

-- each block does
abbrev pub AllSpell : CutPlan → List Block → Type 0
AllSpell plan [] = Unit {0}
AllSpell plan (block ∷ blocks) = Spells plan block × AllSpell plan blocks
