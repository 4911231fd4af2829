-- What is told of a run that stopped: its stop, the bytes that spelled nothing, and how a spool failed.
use Rattle.std.specs.Prelude.{Option, Some, None}
use Rattle.apx_core.specs.declared.opening.StartFault.{StartFault}
use Rattle.apx_core.specs.declared.opening.StartFault.TheVariants as start
use Rattle.apx_course.specs.declared.faults.CoreFault.{CoreFault}
use Rattle.apx_course.specs.declared.faults.CoreFault.TheVariants as fault
use Rattle.apx_load.specs.declared.stop.Stop.{Stop}
use Rattle.apx_load.specs.declared.stop.Stop.TheVariants.{VaultFailed, StoreFailed, SpoolFailed, StateDamaged, BlockDamaged, Memory, Large}
use Rattle.apx_top.specs.declared.ended.Shown.{Shown}
use Rattle.apx_top.specs.declared.ended.Shown.TheVariants.{State, Block}

-- why no run began
abbrev pub stop_of_start : StartFault → Stop
stop_of_start start.Spools = SpoolFailed
stop_of_start start.Memory = Memory

-- why a run stopped
abbrev pub stop_of : {F : Type 0} → CoreFault F → Stop
stop_of fault.Vault = VaultFailed
stop_of fault.Keeper = StoreFailed
stop_of fault.Spools = SpoolFailed
stop_of (fault.Spool f) = SpoolFailed
stop_of (fault.State id bytes) = StateDamaged
stop_of (fault.Block op part number window index last bytes) = BlockDamaged
stop_of fault.Memory = Memory
stop_of fault.Large = Large

-- the bytes that spelled nothing
abbrev pub shown_of : {F : Type 0} → CoreFault F → Option Shown
shown_of (fault.State id bytes) = Some (State id bytes)
shown_of (fault.Block op part number window index last bytes) = Some (Block op part number window index last bytes)
shown_of _ = None

-- how a spool failed
abbrev pub spool_of : {F : Type 0} → CoreFault F → Option F
spool_of (fault.Spool f) = Some f
spool_of _ = None
