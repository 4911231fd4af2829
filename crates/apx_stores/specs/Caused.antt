-- Why a run stopped: the cause of each fault.
--     Counts        how many faults the devices have counted
--     IsNoState     bytes of a checkpoint that spell no progress
--     IsNoBlock     bytes of a block that spell none of its window, index and last mark
--     IsTooLarge    what is too large is so in the one pass
--     IsCaused      the cause of a fault
use Rattle.std.specs.Prelude.{ℕ, ◌≤◌, Bool, List, IsTrue, ⊤}
use Rattle.apx_cause.specs.Cause.{Rose}
use Rattle.apx_list.specs.declared.block.Block.{Block}
use Rattle.apx_list.specs.declared.plan.CutPlan.{CutPlan}
use Rattle.apx_list.specs.Block as blocks
use Rattle.apx_part.specs.Fed.{plan_in}
use Rattle.apx_pass.specs.Job.{Job}
use Rattle.apx_pass.specs.Large.{IsLargeDataflow}
use Rattle.apx_pass.specs.Pass.{Dataflow}
use Rattle.apx_statebytes.specs.Spelling.{IsProgress, Spells}
use Rattle.apx_tuple.specs.declared.progress.Progress.{Progress}
use Rattle.apx_course.specs.declared.faults.CoreFault.{CoreFault}
use Rattle.apx_course.specs.declared.faults.CoreFault.TheVariants.{Vault, Keeper, Spools, Spool, State, Block as Damaged, Memory, Large}

-- how many faults the devices have counted
pub record Counts : Type 0 where
  -- the sink's store
  pub keeper : ℕ
  -- the checkpoint store
  pub vault : ℕ
  -- the maker of spools
  pub spools : ℕ

-- no count fell
pub record AreLater (before now : Counts) : Type 0 where
  -- that of the sink's store
  pub keeper : before.keeper ≤ now.keeper
  -- that of the checkpoint store
  pub vault : before.vault ≤ now.vault
  -- that of the maker of spools
  pub spools : before.spools ≤ now.spools

-- The bytes of a checkpoint spell no progress. A checkpoint store that tells gives no such bytes.
pub record IsNoState (tells : Bool) (bytes : List ℕ) : Type 0 where
  -- they spell none
  pub unspelled : (g : Progress) → IsProgress g → Spells bytes g → ⊥
  -- the checkpoint store doesn't tell
  pub untold : IsTrue tells → ⊥

-- The bytes of a block spell none of its window, index and last mark. A spool that tells gives no such bytes.
pub record IsNoBlock (tells : Bool) (plan : CutPlan) (block : Block) : Type 0 where
  -- they spell none
  pub unspelled : blocks.Spells plan block → ⊥
  -- the spools don't tell
  pub untold : IsTrue tells → ⊥

-- some operator of the dataflow names what is too large, where the checkpoint store and the spools tell
abbrev pub IsTooLarge : Dataflow → Bool → Type 0
IsTooLarge flow told = IsTrue told → IsLargeDataflow flow

-- The cause of a fault, from what the devices had counted to what they have counted now: whether the checkpoint store and the spools
-- tell, both of them, and each.
abbrev pub IsCaused : {F : Type 0} → Job → Bool → Bool → Bool → Counts → Counts → CoreFault F → Type 0
IsCaused job told vault spools before now Keeper = Rose before.keeper now.keeper
IsCaused job told vault spools before now Vault = Rose before.vault now.vault
IsCaused job told vault spools before now Spools = Rose before.spools now.spools
IsCaused job told vault spools before now (Spool fault) = ⊤
IsCaused job told vault spools before now (State id bytes) = IsNoState vault bytes.items
IsCaused job told vault spools before now (Damaged op part number window index last bytes) =
    IsNoBlock spools (plan_in job) (record { window = window; index = index; last = last; bytes = bytes.items })
IsCaused job told vault spools before now Memory = ⊤
IsCaused job told vault spools before now Large = IsTooLarge job.flow told
