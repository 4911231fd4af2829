use Rattle.std.proofs.Common.{subst, sym}
use Rattle.apx_stores.specs.Crashes.{RowsFollow, EntriesFollow}
use Rattle.apx_core.specs.Crashes.{IsOfRun}
use Rattle.apx_sim.proofs.driving.sim.Goals as goal

pub returns-in-Err-clause-driven : goal.returns-in-Err-clause-driven
returns-in-Err-clause-driven g c = c.stopped.ensures.driven c.args.order

pub returns-in-Ok-clause-rows : goal.returns-in-Ok-clause-rows
returns-in-Ok-clause-rows g c =
    subst (λ k. RowsFollow g.J.Naming.run g.K.Keeper.tells k.stores.course.machine.stored g.K.Keeper.time g.K.Keeper.left k.stores.keeper c.core.result.stores.keeper) c.in-Ok.ensures.ok
    (subst (λ k. RowsFollow g.J.Naming.run g.K.Keeper.tells c.in-Ok.bench.stores.course.machine.stored g.K.Keeper.time g.K.Keeper.left c.in-Ok.bench.stores.keeper k.stores.keeper) (sym c.core.ensures)
    c.drive.ensures.rows)

pub returns-in-Ok-clause-entries : goal.returns-in-Ok-clause-entries
returns-in-Ok-clause-entries g c = λ t.
    subst (λ k. EntriesFollow (IsOfRun g.J.Naming.run.job g.J.Naming.run.told) g.V.Vault.time g.V.Vault.left g.V.Vault.held k.stores.vault c.core.result.stores.vault) c.in-Ok.ensures.ok
    (subst (λ k. EntriesFollow (IsOfRun g.J.Naming.run.job g.J.Naming.run.told) g.V.Vault.time g.V.Vault.left g.V.Vault.held c.in-Ok.bench.stores.vault k.stores.vault) (sym c.core.ensures) (c.drive.ensures.entries t))

pub returns-in-Err-clause-rows : goal.returns-in-Err-clause-rows
returns-in-Err-clause-rows g c =
    subst (λ k. RowsFollow g.J.Naming.run g.K.Keeper.tells k.stores.course.machine.stored g.K.Keeper.time g.K.Keeper.left k.stores.keeper c.stopped.result.stores.keeper) c.in-Err.ensures.err
    c.stopped.ensures.rows

pub returns-in-Err-clause-entries : goal.returns-in-Err-clause-entries
returns-in-Err-clause-entries g c = λ t.
    subst (λ k. EntriesFollow (IsOfRun g.J.Naming.run.job g.J.Naming.run.told) g.V.Vault.time g.V.Vault.left g.V.Vault.held k.stores.vault c.stopped.result.stores.vault) c.in-Err.ensures.err (c.stopped.ensures.entries t)
