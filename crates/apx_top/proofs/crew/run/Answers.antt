use Rattle.std.proofs.Common.{◌≤◌, refl, sym, subst, arith}
use Rattle.std.specs.Prelude.{⊤}
use Rattle.std.proofs.lemmas.Grind.{common_steps}
use Rattle.apx_cause.specs.Cause.{Rose}
use Rattle.apx_pass.specs.Pass.{windows}
use Rattle.apx_load.specs.declared.stop.Stop.TheVariants.{Memory}
use Rattle.apx_load.specs.Stops.{IsCaused, no_causes}
use Rattle.apx_top.specs.Changes.{keeper_meaning, vault_meaning, spools_meaning}
use Rattle.apx_top.specs.Left.{left_of}
use Rattle.apx_top.specs.Way.{by_workers}
use Rattle.apx_top.proofs.Printed.{unbegun_run, start_stop, settled_run}
use Rattle.apx_top.proofs.crew.run.Goals as goal

pub returns-then-windows-last-clause-ran : goal.returns-then-windows-last-clause-ran
returns-then-windows-last-clause-ran g c =
    unbegun_run (keeper_meaning g.K.Keeper.tells g.K.Keeper.stored g.K.Keeper.last g.K.Keeper.faults) (vault_meaning g.V.Vault.tells g.V.Vault.held g.V.Vault.faults) (spools_meaning g.P.S.Spool.tells g.P.Spools.faults)
    c.args.devices c.args.job.value (by_workers c.args.workers) ⊤ (λ es end. ⊥) c.args.devices c.unrun.result.devices (left_of c.unrun.result) Memory c.unrun.ensures.devices c.unrun.ensures.left tt (λ more. refl) refl refl tt

pub returns-in-Ok-clause-ran : goal.returns-in-Ok-clause-ran
returns-in-Ok-clause-ran g c =
    let few : g.K.Keeper.last c.args.devices.keeper ≤ windows c.args.job.value.flow = grind (arith, common_steps) in
    settled_run (keeper_meaning g.K.Keeper.tells g.K.Keeper.stored g.K.Keeper.last g.K.Keeper.faults) (vault_meaning g.V.Vault.tells g.V.Vault.held g.V.Vault.faults) (spools_meaning g.P.S.Spool.tells g.P.Spools.faults)
    c.args.devices c.args.job.value (by_workers c.args.workers) c.in-Ok.closed (record {
      few = few;
      history = c.in-Ok.ensures.history;
      store = c.in-Ok.ensures.store;
      needed = c.in-Ok.ensures.needed;
      whole = c.in-Ok.ensures.whole;
      checkpoints = c.in-Ok.ensures.checkpoints;
      stopped = c.in-Ok.ensures.stopped;
    }) c.settle.result c.settle.ensures

pub returns-in-Err-clause-ran : goal.returns-in-Err-clause-ran
returns-in-Err-clause-ran g c =
    let few : g.K.Keeper.last c.args.devices.keeper ≤ windows c.args.job.value.flow = grind (arith, common_steps) in
    unbegun_run (keeper_meaning g.K.Keeper.tells g.K.Keeper.stored g.K.Keeper.last g.K.Keeper.faults) (vault_meaning g.V.Vault.tells g.V.Vault.held g.V.Vault.faults) (spools_meaning g.P.S.Spool.tells g.P.Spools.faults)
    c.args.devices c.args.job.value (by_workers c.args.workers) ⊤ (λ es end. ⊥) c.in-Err.devices c.unrun-in-Err.result.devices (left_of c.unrun-in-Err.result) c.stop_of_start.result c.unrun-in-Err.ensures.devices c.unrun-in-Err.ensures.left
    (subst (IsCaused (record no_causes { spool = Rose (g.P.Spools.faults c.args.devices.spools) (g.P.Spools.faults c.in-Err.devices.spools) })) (sym c.stop_of_start.ensures) (start_stop _ _ c.in-Err.fault c.in-Err.ensures.cause))
    (λ more. absurd (omega (arith, few, more))) c.in-Err.ensures.kept_keeper c.in-Err.ensures.kept_vault tt
