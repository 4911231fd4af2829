-- The status that a run stops with.
use Rattle.std.specs.Prelude.{ℕ, Bool, true, false, Option, None, Some}
use Rattle.apx_history.specs.declared.Event.{Event}
use Rattle.apx_history.specs.declared.Event.TheVariants.{Fault}
use Rattle.apx_course.specs.declared.faults.CoreFault.{CoreFault}
use Rattle.apx_course.specs.declared.faults.CoreFault.TheVariants.{Vault, Keeper, Spools, Spool, State, Block, Memory, Large}

-- the status of a fault
abbrev pub status : {F : Type 0} → CoreFault F → ℕ
status Vault = 8
status Keeper = 9
status Spools = 10
status (Spool fault) = 10
status (State id bytes) = 11
status (Block op part number window index last bytes) = 11
status Memory = 13
status Large = 19

-- the status of a fault, if there is one
abbrev pub status_of : {F : Type 0} → Option (CoreFault F) → Option ℕ
status_of None = None
status_of (Some fault) = Some (status fault)

-- the event is a fault
abbrev pub is_fault : Event → Bool
is_fault (Fault s) = true
is_fault e = false
