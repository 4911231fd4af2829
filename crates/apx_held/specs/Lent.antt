-- The blocks of a window that lists lend, and why they lend none.
use Rattle.std.specs.Prelude.{◌≡◌, ℕ, ◌<◌, ◌≤◌, ◌==◌, Bool, List, [], length, get_or, filter, IsTrue, ⊤}
use Rattle.apx_tuple.specs.declared.tuple.Tuple.{Tuple}
use Rattle.apx_list.specs.declared.block.Block.{Block}
use Rattle.apx_list.specs.declared.fault.ListFault.{ListFault}
use Rattle.apx_list.specs.declared.fault.ListFault.TheVariants.{Fault, Damaged, Memory}
use Rattle.apx_list.specs.Listed.{Listed}
use Rattle.apx_list.specs.Reads.{IsDamaged}
use Rattle.apx_list.specs.Window.{SpellWindow}
use Rattle.apx_held.specs.declared.fault.LendFault.{LendFault}
use Rattle.apx_held.specs.declared.held.Unnamed.{Unnamed}
use Rattle.apx_held.specs.Holding.{Holding, no_holding}

-- a list of a window's blocks can be lent: the window is above the floor, and whole
pub record CanLend (window : ℕ) (list : Listed Unnamed) : Type 0 where
  -- it wasn't dropped
  pub kept : list.floor < window
  -- it is whole
  pub whole : window ≤ list.top

-- those of the blocks that are of a window
abbrev pub of_window : ℕ → List Block → List Block
of_window window blocks = filter (λ block. block.window == window) blocks

-- The blocks are all those of the window, as a list has them. Where the spool tells they are the list's own.
pub record IsLent (tells : Bool) (window : ℕ) (list : Listed Unnamed) (blocks : List Block) : Type 0 where
  -- the tuples that they spell
  pub tuples : List Tuple
  -- they are all those of the window
  pub whole : SpellWindow list.plan window blocks tuples
  -- they are the list's
  pub same : IsTrue tells → blocks ≡ of_window window list.blocks

-- so are the blocks of each partition of an operator
pub record AreLent (tells : Bool) (window : ℕ) (group : List Holding) (lists : List (List Block)) : Type 0 where
  -- there is a list for each partition
  pub count : length lists ≡ length group
  -- it lent them
  pub each : (i : ℕ) → i < length group → IsLent tells window (get_or group i no_holding).list (get_or lists i [])

-- why a list gave no block: want of memory, a fault of its spool, or bytes that spell no such block, of a spool that doesn't tell
abbrev pub IsOfList : {F : Type 0} → Bool → Listed Unnamed → ListFault F → Type 0
IsOfList tells list Memory = ⊤
IsOfList tells list (Fault fault) = ⊤
IsOfList tells list (Damaged number window index last bytes) =
    IsDamaged tells list number (record { window = window; index = index; last = last; bytes = bytes.items })

-- why any list may give no block
abbrev pub IsOfAnyList : {F : Type 0} → ListFault F → Type 0
IsOfAnyList fault = (tells : Bool) (list : Listed Unnamed) → IsOfList tells list fault

-- why an operator lent no lists: the list of one of its partitions gave no block
pub record IsUnlent {F : Type 0} (tells : Bool) (group : List Holding) (unlent : LendFault F) : Type 0 where
  -- the partition is there
  pub there : unlent.part < length group
  -- why its list gave none
  pub fault : IsOfList tells (get_or group unlent.part no_holding).list unlent.fault
