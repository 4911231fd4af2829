-- The status of a fault is one that a run may stop with.
use Rattle.std.proofs.Common.{◌≡◌, true, refl}
use Rattle.apx_history.specs.Plan.{has}
use Rattle.apx_history.specs.Enabled.{is_status}
use Rattle.apx_course.specs.declared.faults.CoreFault.{CoreFault}
use Rattle.apx_course.specs.declared.faults.CoreFault.TheVariants.{Vault, Keeper, Spools, Spool, State, Block, Memory, Large}
use Rattle.apx_course.specs.Faults.{status}

pub status_is : {F : Type 0} (f : CoreFault F) → is_status (status f) ≡ true
unfolding has
status_is Vault = refl
status_is Keeper = refl
status_is Spools = refl
status_is (Spool fault) = refl
status_is (State id bytes) = refl
status_is (Block op part number window index last bytes) = refl
status_is Memory = refl
status_is Large = refl
