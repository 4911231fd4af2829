-- Where the blocks of a list are, and the block that was fetched last.
use Rattle.std.specs.Prelude.{◌≡◌, ◌⊎◌, ◌-◌, ◌+◌, ◌≤◌, ℕ, List, Bool, Option, Some, None, IsSome, IsTrue, slice_get, map}
use Rattle.apx_device.specs.declared.spool.SpoolRefusal.{SpoolRefusal}
use Rattle.apx_device.specs.declared.spool.SpoolRefusal.TheVariants.{Fault as SpoolFault, Memory as SpoolMemory}
use Rattle.apx_list.specs.declared.plan.CutPlan.{CutPlan}
use Rattle.apx_list.specs.declared.block.Marks.{Marks}
use Rattle.apx_list.specs.declared.block.Block.{Block}
use Rattle.apx_list.specs.declared.kept.Kept.{Kept}
use Rattle.apx_list.specs.declared.kept.Kept.TheVariants.{Held, Spilled}
use Rattle.apx_list.specs.declared.kept.Fetched.{Fetched}
use Rattle.apx_list.specs.declared.fault.ListFault.{ListFault}
use Rattle.apx_list.specs.declared.fault.ListFault.TheVariants.{Fault, Damaged, Memory}
use Rattle.apx_list.specs.Block.{Spells}
use Rattle.apx_list.specs.Checking.{block_with}
use Rattle.apx_list.specs.Listed.{IsKept}

-- the block, wherever it is
abbrev pub block_of : Kept → Block
block_of (Held block) = block
block_of (Spilled marks bytes) = block_with marks bytes.value

-- the blocks, wherever they are
abbrev pub all_of : List Kept → List Block
all_of kept = map block_of kept

-- the spool has the bytes of a spilled block, where it tells them
abbrev pub IsPut : Bool → Option (List ℕ) → Kept → Type 0
IsPut tells piece (Held block) = Unit {0}
IsPut tells piece (Spilled marks bytes) = IsSome piece × (IsTrue tells → piece ≡ Some bytes.value)

-- the spool has the bytes of each spilled block under its number
abbrev pub ArePut : Bool → (ℕ → Option (List ℕ)) → ℕ → List Kept → Type 0
ArePut tells held first kept = (k : ℕ) (one : Kept) → slice_get kept k ≡ Some one → IsPut tells (held (first + k)) one

-- the spool has no longer the bytes of a spilled block
abbrev pub IsForgotten : Option (List ℕ) → Kept → Type 0
IsForgotten piece (Held block) = Unit {0}
IsForgotten piece (Spilled marks bytes) = piece ≡ None

-- A block as it was fetched: it says what it was to say, it spells that, and where the spool tells, its bytes are the piece.
pub record IsOf (tells : Bool) (plan : CutPlan) (piece : Option (List ℕ)) (marks : Marks) (block : Block) : Type 0 where
  -- it says what was asked for
  pub says : block ≡ block_with marks block.bytes
  -- its bytes spell that
  pub spells : Spells plan block
  -- its bytes are the piece, where the spool tells
  pub told : IsTrue tells → piece ≡ Some block.bytes

-- The block at a place of the list, as it was fetched: the list's own one where the spool tells.
pub record IsFetched (tells : Bool) (plan : CutPlan) (first : ℕ) (blocks : List Block) (place : ℕ) (block : Block) : Type 0 where
  -- the place is not below the first block
  pub after : first ≤ place
  -- the block that the list has there
  pub there : Block
  -- it stands at the place
  pub is : slice_get blocks (place - first) ≡ Some there
  -- the fetched one has its window
  pub window : block.window ≡ there.window
  -- its index
  pub index : block.index ≡ there.index
  -- and its mark
  pub last : block.last ≡ there.last
  -- and spells what it says
  pub spells : Spells plan block
  -- where the spool tells it is that block
  pub same : IsTrue tells → there ≡ block

-- the block that was fetched last is one of the list
abbrev pub IsLatest : Bool → CutPlan → ℕ → List Block → Option Fetched → Type 0
IsLatest tells plan first blocks None = Unit {0}
IsLatest tells plan first blocks (Some latest) = IsFetched tells plan first blocks latest.number latest.block

-- the block with this number, as it was fetched, if this is the one that was fetched last
abbrev pub IsLatestOf : Bool → CutPlan → ℕ → Option (List ℕ) → Marks → Option Fetched → Type 0
IsLatestOf tells plan number piece marks None = Unit {0}
IsLatestOf tells plan number piece marks (Some latest) = latest.number ≡ number → IsOf tells plan piece marks latest.block

-- the block that was fetched last is the one from before, or the one with this number
abbrev pub KeepsLatest : Bool → CutPlan → ℕ → Option (List ℕ) → Marks → (old new : Option Fetched) → Type 0
KeepsLatest tells plan number piece marks old None = old ≡ None
KeepsLatest tells plan number piece marks old (Some latest) =
    (old ≡ Some latest) ⊎ ((latest.number ≡ number) × IsOf tells plan piece marks latest.block)

-- where the spool tells, the piece spells a block with these marks
abbrev pub SpellsPut : Bool → CutPlan → Option (List ℕ) → Marks → Type 0
SpellsPut tells plan piece marks = IsTrue tells → (bytes : List ℕ) → piece ≡ Some bytes → Spells plan (block_with marks bytes)

-- What is damaged: bytes of the block with this number, with its marks, that spell no such block. Never where the spool tells.
abbrev pub IsDamagedBy : {F : Type 0} → Bool → CutPlan → ℕ → Marks → ListFault F → Type 0
IsDamagedBy tells plan place marks Memory = Unit {0}
IsDamagedBy tells plan place marks (Fault fault) = Unit {0}
IsDamagedBy tells plan place marks (Damaged number window index last bytes) =
    (number ≡ place) × (record { window = window; index = index; last = last } ≡ marks)
    × (Spells plan (block_with marks bytes.items) → ⊥) × (IsTrue tells → ⊥)

-- the spool failed, or memory ran out
abbrev pub IsOfSpool : {F : Type 0} → ListFault F → Type 0
IsOfSpool Memory = Unit {0}
IsOfSpool (Fault fault) = Unit {0}
IsOfSpool (Damaged number window index last bytes) = ⊥

-- a spool's refusal, as a fault of the list
abbrev pub fault_of : {F : Type 0} → SpoolRefusal F → ListFault F
fault_of (SpoolFault fault) = Fault fault
fault_of SpoolMemory = Memory

-- What a list keeps: its numbers, the pieces of its spilled blocks, and the block that was fetched last.
pub record IsStored (tells : Bool) (held : ℕ → Option (List ℕ)) (told : Option (List Block)) (plan : CutPlan) (floor top first : ℕ)
    (kept : List Kept) (from : ℕ) (starts : List ℕ) (next_start : ℕ) (latest : Option Fetched) : Type 0 where
  -- the numbered list, and what is kept of its numbers
  pub numbers : IsKept told plan floor top first (all_of kept) from starts next_start
  -- each spilled block is in the spool
  pub put : ArePut tells held first kept
  -- what was fetched last is a block of the list
  pub latest_is : IsLatest tells plan first (all_of kept) latest
