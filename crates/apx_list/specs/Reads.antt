-- What a read of a numbered list gives.
use Rattle.std.specs.Prelude.{◌≡◌, ℕ, ◌-◌, ◌<◌, List, Bool, Result, Ok, Err, Option, Some, IfSome, IsTrue, slice_get}
use Rattle.apx_list.specs.declared.block.Block.{Block}
use Rattle.apx_list.specs.declared.list.Read.{Read}
use Rattle.apx_list.specs.declared.list.Read.TheVariants.{Block as ReadBlock, NotYet}
use Rattle.apx_list.specs.declared.fault.ListFault.{ListFault}
use Rattle.apx_list.specs.declared.fault.ListFault.TheVariants.{Fault, Damaged, Memory}
use Rattle.apx_list.specs.Block.{Spells}
use Rattle.apx_list.specs.Listed.{Listed, next_number}

-- The block with a number has the window, the index and the mark of this one.
pub record HasMarks {N : Type 0} (list : Listed N) (place : ℕ) (block : Block) : Type 0 where
  -- the block with the number
  pub there : Block
  -- it stands in the list
  pub is : slice_get list.blocks (place - list.first) ≡ Some there
  -- this one has its window
  pub window : block.window ≡ there.window
  -- its index
  pub index : block.index ≡ there.index
  -- and its mark
  pub last : block.last ≡ there.last

-- What is read at a place spells what it says, and says what the block with the number says. Where the spool tells it is
-- that block, and so the one at that number of those that the list's name tells.
pub record IsRead {N : Type 0} (tells : Bool) (told : Option (List Block)) (list : Listed N) (place : ℕ) (block : Block) : Type 0 where
  -- it says what the block with the number says
  pub marks : HasMarks list place block
  -- it spells that
  pub spells : Spells list.plan block
  -- where the spool tells it is that block
  pub same : IsTrue tells → slice_get list.blocks (place - list.first) ≡ Some block
  -- and so the one that the name tells
  pub named : IsTrue tells → IfSome told (λ all. slice_get all place ≡ Some block)

-- The bytes that the spool gave for the block with the number spell no block of its window, index and mark. A spool that tells
-- gives no such bytes.
pub record IsDamaged {N : Type 0} (tells : Bool) (list : Listed N) (place : ℕ) (block : Block) : Type 0 where
  -- the place and the marks are those of the block with the number
  pub marks : HasMarks list place block
  -- the bytes spell no such block
  pub damaged : Spells list.plan block → ⊥
  -- the spool does not tell
  pub untold : IsTrue tells → ⊥

-- NotYet exactly at the next number. A fault is the spool's own value.
abbrev pub GivesBlock : {N F : Type 0} → Bool → Option (List Block) → Listed N → ℕ → Result Read (ListFault F) → Type 0
GivesBlock tells told list place (Ok (ReadBlock block)) = IsRead tells told list place block
GivesBlock tells told list place (Ok NotYet) = place ≡ next_number list
GivesBlock tells told list place (Err Memory) = place < next_number list
GivesBlock tells told list place (Err (Fault fault)) = place < next_number list
GivesBlock tells told list place (Err (Damaged number window index last bytes)) =
    (number ≡ place) × IsDamaged tells list place (record { window = window; index = index; last = last; bytes = bytes.items })
