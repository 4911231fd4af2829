use Rattle.std.proofs.Common.{refl, subst, ◌∙◌}
use Rattle.std.specs.Prelude.{None, ⊤}
use Rattle.apx_pass.specs.Job.{Job}
use Rattle.apx_load.specs.declared.stop.Stop.TheVariants.{Memory}
use Rattle.apx_top.specs.Changes.{keeper_meaning, vault_meaning, spools_meaning, devices_change, output_change}
use Rattle.apx_top.specs.Left.{left_of}
use Rattle.apx_top.specs.Run.{HasRun, HasRunAs}
use Rattle.apx_top.specs.Way.{in_order}
use Rattle.apx_top.proofs.Printed.{unbegun_run, unended, traced_run}
use Rattle.apx_top.proofs.trace.trace.Goals as goal

pub returns-in_default-clause-ran : goal.returns-in_default-clause-ran
returns-in_default-clause-ran g c =
    unbegun_run (keeper_meaning g.K.Keeper.tells g.K.Keeper.stored g.K.Keeper.last g.K.Keeper.faults) (vault_meaning g.V.Vault.tells g.V.Vault.held g.V.Vault.faults) (spools_meaning g.P.S.Spool.tells g.P.Spools.faults)
    c.args.devices c.args.job (in_order c.args.order) _ _ c.args.devices c.unrun.result.devices (left_of c.unrun.result) Memory c.unrun.ensures.devices c.unrun.ensures.left tt (λ more. refl) refl refl refl

pub returns-in-Ok-run-clause-ran : goal.returns-in-Ok-run-clause-ran
returns-in-Ok-run-clause-ran g c =
    traced_run (keeper_meaning g.K.Keeper.tells g.K.Keeper.stored g.K.Keeper.last g.K.Keeper.faults) (vault_meaning g.V.Vault.tells g.V.Vault.held g.V.Vault.faults) (spools_meaning g.P.S.Spool.tells g.P.Spools.faults)
    c.args.devices c.args.job (in_order c.args.order) c.in-Ok-run.run'.journal c.in-Ok-run.run'.devices
    (subst (λ (j : Job). HasRunAs {F = g.row.P-S-Fault.Denot} j (in_order c.args.order) (devices_change (keeper_meaning g.K.Keeper.tells g.K.Keeper.stored g.K.Keeper.last g.K.Keeper.faults) (vault_meaning g.V.Vault.tells g.V.Vault.held g.V.Vault.faults) (spools_meaning g.P.S.Spool.tells g.P.Spools.faults) c.args.devices c.in-Ok-run.run'.devices) c.in-Ok-run.run'.journal None) c.in-Ok.ensures.1 c.in-Ok-run.ensures.ran)
    c.print-end.new.keeper c.print-end.ensures.stored c.print-end.ensures.last c.print-end.ensures.later c.deref.result.now (c.deref.ensures ∙ c.in-Ok.ensures.0)
    _ (output_change g.O.Out.tells g.O.Out.written g.O.Out.faults c.args.out.now c.print-end.new.out) (output_change g.E.Out.tells g.E.Out.written g.E.Out.faults c.args.err.now c.print-end.new.err) c.print-end.result c.printed.result.devices (left_of c.printed.result) c.printed.ensures.devices c.printed.ensures.left
    (record { journal = c.print-end.ensures.journal; entries = c.print-end.ensures.entries; report = c.print-end.ensures.report; front = c.print-end.ensures.front; unprinted = c.print-end.ensures.unprinted; report_front = c.print-end.ensures.report_front; stop = c.print-end.ensures.stop })

pub returns-clause-ran : goal.returns-clause-ran
returns-clause-ran g c =
    unended _ _ c.args.job (in_order c.args.order) (devices_change (keeper_meaning g.K.Keeper.tells g.K.Keeper.stored g.K.Keeper.last g.K.Keeper.faults) (vault_meaning g.V.Vault.tells g.V.Vault.held g.V.Vault.faults) (spools_meaning g.P.S.Spool.tells g.P.Spools.faults) c.args.devices c.in-Err.outcome.devices) (left_of c.in-Err.outcome) refl
    (subst (λ (j : Job). HasRun ⊤ (λ es end. ⊥) j (in_order c.args.order) (devices_change (keeper_meaning g.K.Keeper.tells g.K.Keeper.stored g.K.Keeper.last g.K.Keeper.faults) (vault_meaning g.V.Vault.tells g.V.Vault.held g.V.Vault.faults) (spools_meaning g.P.S.Spool.tells g.P.Spools.faults) c.args.devices c.in-Err.outcome.devices) (left_of c.in-Err.outcome)) c.in-Ok.ensures.1 c.in-Err.ensures.ran)
