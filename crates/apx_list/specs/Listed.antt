-- A numbered list of blocks.
use Rattle.std.specs.Prelude.{◌≡◌, ℕ, ◌+◌, ◌*◌, ◌-◌, ◌^◌, ◌≤◌, ◌<◌, List, [], ◌∷◌, ◌++◌, length, Option, Some, None, IfSome, nat_lt, nat_le, ◌&&◌, slice_get, slice_index, if◌then◌else◌}
use Rattle.apx_list.specs.declared.plan.CutPlan.{CutPlan}
use Rattle.apx_list.specs.declared.block.Block.{Block}
use Rattle.apx_list.specs.Plan.{IsPlan}
use Rattle.apx_list.specs.Block.{Spells, AllSpell}

-- The blocks of the windows above floor up to top, and those so far of the window after. The first of them
-- has the number first.
pub record Listed (N : Type 0) : Type 0 where
  -- the name of the list
  pub name : N
  -- how its windows are cut
  pub plan : CutPlan
  -- the last window that was purged
  pub floor : ℕ
  -- the last window that is whole
  pub top : ℕ
  -- the number of the first block
  pub first : ℕ
  -- the blocks, in order
  pub blocks : List Block

-- how many of the blocks are of windows before this one
abbrev pub before : ℕ → List Block → ℕ
before window [] = 0
before window (block ∷ blocks) = (if nat_lt block.window window then 1 else 0) + before window blocks

-- the number of the block that comes next
abbrev pub next_number : {N : Type 0} → Listed N → ℕ
next_number list = list.first + length list.blocks

-- all are of windows up to one, or above it
abbrev pub AreUpTo : ℕ → List Block → Type 0
AreUpTo window [] = Unit {0}
AreUpTo window (block ∷ blocks) = (block.window ≤ window) × AreUpTo window blocks

-- all blocks are of windows above one
abbrev pub AreAbove : ℕ → List Block → Type 0
AreAbove window [] = Unit {0}
AreAbove window (block ∷ blocks) = (window < block.window) × AreAbove window blocks

-- windows from low on up to high, in ascending order
abbrev pub IsWithin : ℕ → ℕ → List Block → Type 0
IsWithin low high [] = Unit {0}
IsWithin low high (block ∷ blocks) = (low ≤ block.window) × (block.window ≤ high) × IsWithin block.window high blocks

-- the window and the index of the block that comes behind one
abbrev pub window_after : Block → ℕ
window_after block = if block.last then block.window + 1 else block.window

-- the index of the block that comes behind one
abbrev pub index_after : Block → ℕ
index_after block = if block.last then 0 else block.index + 1

-- The first of the blocks has this window and this index. Each other one is the next of its window, or block 0 of
-- the window after where the one before it is a last block.
abbrev pub AreConsecutive : ℕ → ℕ → List Block → Type 0
AreConsecutive window index [] = Unit {0}
AreConsecutive window index (block ∷ blocks) =
    (block.window ≡ window) × (block.index ≡ index) × AreConsecutive (window_after block) (index_after block) blocks

-- the window of the block that comes behind blocks; this one, where there are none
abbrev pub next_window : ℕ → List Block → ℕ
next_window window [] = window
next_window window (block ∷ blocks) = next_window (window_after block) blocks

-- the index of the block that comes behind blocks; this one, where there are none
abbrev pub next_index : ℕ → List Block → ℕ
next_index index [] = index
next_index index (block ∷ blocks) = next_index (index_after block) blocks

-- The blocks of a list are in order, from block 0 of the window after floor on. The next one is of the window after
-- top, and has as its index how many of them are of that window.
pub record IsRow (floor top : ℕ) (blocks : List Block) : Type 0 where
  -- they follow one another, from block 0 of the window after the floor on
  pub order : AreConsecutive (floor + 1) 0 blocks
  -- the next one is of the window after the top
  pub window : next_window (floor + 1) blocks ≡ top + 1
  -- and its index is how many blocks of that window there are
  pub index : before (top + 1) blocks + next_index 0 blocks ≡ length blocks

-- from a number on, these blocks are those of all
abbrev pub AreNamed : List Block → ℕ → List Block → Type 0
AreNamed all first blocks = (k : ℕ) → k < length blocks → slice_get all (first + k) ≡ slice_get blocks k

-- The block may be appended: it is the next one of the window after top, it spells what it says, and it is
-- the one at its number where the name tells the blocks of the list.
pub record IsNext {N : Type 0} (named : N → Option (List Block)) (list : Listed N) (block : Block) : Type 0 where
  -- it is of the window in progress
  pub window : block.window ≡ list.top + 1
  -- which is one of the run
  pub there : block.window ≤ list.plan.windows
  -- it is the next one of that window
  pub index : before (list.top + 1) list.blocks + block.index ≡ length list.blocks
  -- it spells what it says
  pub spells : Spells list.plan block
  -- it is the one at this number, where the name tells
  pub told : IfSome (named list.name) (λ blocks. slice_get blocks (next_number list) ≡ Some block)

-- the list with one block more, which ends its window if it is the last of it
abbrev pub with_block : {N : Type 0} → Listed N → Block → Listed N
with_block list block = record list {
  top = (if block.last then list.top + 1 else list.top);
  blocks = list.blocks ++ block ∷ [];
}

-- Exactly the blocks of windows up to one are gone, and the others keep their numbers.
pub record IsPurged {N : Type 0} (old new : Listed N) (to : ℕ) : Type 0 where
  -- the blocks that are gone
  pub gone : List Block
  -- they stood in front
  pub split : old.blocks ≡ gone ++ new.blocks
  -- they are of windows up to that one
  pub are_gone : AreUpTo to gone
  -- the others are of windows above it
  pub are_kept : AreAbove to new.blocks
  -- the others keep their numbers
  pub first : new.first ≡ old.first + length gone
  -- the floor is that window
  pub floor : new.floor ≡ to
  -- the top stays
  pub top : new.top ≡ old.top
  -- the plan stays
  pub plan : new.plan ≡ old.plan
  -- the name stays
  pub name : new.name ≡ old.name

-- Blocks of windows up to one are gone from the front, this many, and none is left there.
pub record IsDropped (old new : List Block) (to count : ℕ) : Type 0 where
  -- the blocks that are gone
  pub gone : List Block
  -- they stood in front
  pub split : old ≡ gone ++ new
  -- they are of windows up to that one
  pub are_gone : AreUpTo to gone
  -- so many they are
  pub count_is : count ≡ length gone
  -- the one in front is of a window above it
  pub front : IfSome (slice_get new 0) (λ block. to < block.window)

-- The number of block 0 of a window above the floor, up to the one after top: the blocks of the windows
-- before it have the numbers below.
abbrev pub start_of : {N : Type 0} → Listed N → ℕ → Option ℕ
start_of list window =
    if nat_lt list.floor window && nat_le window (list.top + 1)
    then Some (list.first + before window list.blocks)
    else None

-- What a list keeps of its numbers beside its blocks, and of the blocks that its name tells.
pub record IsKept (told : Option (List Block)) (plan : CutPlan) (floor top first : ℕ) (blocks : List Block)
    (from : ℕ) (starts : List ℕ) (next_start : ℕ) : Type 0 where
  -- the plan is within its limits
  pub plan_is : IsPlan plan
  -- the floor is not above the top
  pub floor_below : floor ≤ top
  -- nor the top above the last window
  pub top_below : top ≤ plan.windows
  -- each block spells what it says
  pub spelled : AllSpell plan blocks
  -- the windows ascend from that after the floor to that after the top
  pub within : IsWithin (floor + 1) (top + 1) blocks
  -- each is a window of the run
  pub run : AreUpTo plan.windows blocks
  -- the blocks follow one another
  pub row : IsRow floor top blocks
  -- they are those of the name, where it tells
  pub named : IfSome told (λ all. AreNamed all first blocks)
  -- the list began at the floor or below
  pub from_below : from ≤ floor
  -- each whole window since then has a start
  pub count : length starts + from ≡ top
  -- a start is the number of block 0 of its window
  pub start : (window : ℕ) → floor < window → window ≤ top → slice_index starts (window - from - 1) ≡ first + before window blocks
  -- so is that of the window in progress
  pub next : next_start ≡ first + before (top + 1) blocks
  -- whole windows have few blocks
  pub few_finished : next_start ≤ top * 2 ^ 32
  -- and so has the one in progress
  pub few_next : first + length blocks ≤ next_start + 2 ^ 32
