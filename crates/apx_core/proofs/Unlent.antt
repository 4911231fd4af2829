-- Why no blocks are lent, or come to a list, as a run's fault.
use Rattle.std.proofs.Common.{◌≡◌, ℕ, Bool, sym, subst}
use Rattle.apx_list.specs.Block as blocks
use Rattle.apx_list.specs.declared.block.Block.{Block}
use Rattle.apx_list.specs.declared.plan.CutPlan.{CutPlan}
use Rattle.apx_list.specs.Listed.{Listed}
use Rattle.apx_list.specs.Reads.{IsDamaged}
use Rattle.apx_part.specs.Fed.{plan_in}
use Rattle.apx_pass.specs.Job.{Job}
use Rattle.apx_course.specs.declared.faults.CoreFault.{CoreFault}
use Rattle.apx_course.specs.declared.faults.CoreFault.TheVariants.{Vault, Keeper, Spools, Spool, State, Block as Damaged, Memory, Large}
use Rattle.apx_stores.specs.Caused.{Counts, IsNoBlock, IsCaused}
use Rattle.apx_held.specs.declared.held.Unnamed.{Unnamed}
use Rattle.apx_core.specs.Ports.{IsUnlentBy, IsUnbrought}

-- what a list finds damaged is no block of its plan
pub no_block : (tells : Bool) (plan : CutPlan) (list : Listed Unnamed) {place : ℕ} {block : Block} → list.plan ≡ plan → IsDamaged tells list place block → IsNoBlock tells plan block
no_block tells plan list {place} {block} cut damaged = record {
  unspelled = λ spells. damaged.damaged (subst (λ (p : CutPlan). blocks.Spells p block) (sym cut) spells);
  untold = damaged.untold;
}

-- it has its cause
pub unlent_caused : {F : Type 0} (job : Job) (told vault spools : Bool) (before now : Counts) (fault : CoreFault F) → IsUnlentBy (plan_in job) spools fault → IsCaused job told vault spools before now fault
unlent_caused job told vault spools before now (Spool fault) h = tt
unlent_caused job told vault spools before now (Damaged op part number window index last bytes) h = h
unlent_caused job told vault spools before now Memory h = tt
unlent_caused job told vault spools before now Vault h = absurd h
unlent_caused job told vault spools before now Keeper h = absurd h
unlent_caused job told vault spools before now Spools h = absurd h
unlent_caused job told vault spools before now (State id bytes) h = absurd h
unlent_caused job told vault spools before now Large h = absurd h

pub unbrought_caused : {F : Type 0} (job : Job) (told vault spools : Bool) (before now : Counts) (fault : CoreFault F) → IsUnbrought fault → IsCaused job told vault spools before now fault
unbrought_caused job told vault spools before now (Spool fault) h = tt
unbrought_caused job told vault spools before now Memory h = tt
unbrought_caused job told vault spools before now (Damaged op part number window index last bytes) h = absurd h
unbrought_caused job told vault spools before now Vault h = absurd h
unbrought_caused job told vault spools before now Keeper h = absurd h
unbrought_caused job told vault spools before now Spools h = absurd h
unbrought_caused job told vault spools before now (State id bytes) h = absurd h
unbrought_caused job told vault spools before now Large h = absurd h
