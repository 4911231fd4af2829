use Rattle.std.proofs.Common.{◌-◌, ◌≤◌, length, IsTrue}
use Rattle.apx_history.specs.Laws.{bound}
use Rattle.apx_drive.proofs.Driving.{Driving}
use Rattle.apx_stores.specs.Crashes.{RowsFollow, EntriesFollow}
use Rattle.apx_core.specs.Crashes.{IsOfRun}
use Rattle.apx_sim.specs.Bench.{place_of}
use Rattle.apx_sim.proofs.driving.drive.Given as goal

abbrev pub invariant-loop-words : goal.invariant-loop-words
invariant-loop-words g l = record {
  driven : Driving g.J.Naming.run.plan l.order g.J.Naming.run.stored g.J.Naming.run.from (place_of l.bench.stores.course) l.words;
  grown : l.fn.bench.stores.course.machine.stored ≤ l.bench.stores.course.machine.stored;
  rows : RowsFollow g.J.Naming.run g.K.Keeper.tells l.fn.bench.stores.course.machine.stored g.K.Keeper.time g.K.Keeper.left l.fn.bench.stores.keeper l.bench.stores.keeper;
  entries : IsTrue g.V.Vault.tells → EntriesFollow (IsOfRun g.J.Naming.run.job g.J.Naming.run.told) g.V.Vault.time g.V.Vault.left g.V.Vault.held l.fn.bench.stores.vault l.bench.stores.vault;
}

abbrev pub decreases-loop-words : goal.decreases-loop-words
decreases-loop-words g l = bound g.J.Naming.run.plan - length l.bench.stores.course.journal
