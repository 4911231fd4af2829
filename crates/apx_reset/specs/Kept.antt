-- What is kept for partitions beside a run with its devices.
use Rattle.std.specs.Prelude.{Bool, List}
use Rattle.apx_device.specs.Vault.{Entry, entry_at}
use Rattle.apx_history.specs.State.{State}
use Rattle.apx_course.specs.Run.{Run}
use Rattle.apx_held.specs.Holding.{Holding}
use Rattle.apx_held.specs.Fits.{Fits}

-- What is kept for each partition fits a state of the run's machine, and so do the entries of its checkpoint store, where that
-- tells them.
abbrev pub FitsRun : Run → Bool → List Entry → State → List (List Holding) → Type 0
FitsRun run vault entries m hs = Fits run.job (record { all = run.told; vault = vault }) (entry_at entries) m hs
