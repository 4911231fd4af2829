use Rattle.std.proofs.Common.{◌&&◌}
use Rattle.apx_job.specs.Job.{plan_of}
use Rattle.apx_crew.proofs.whole.run_by_threads.Given as goal

abbrev pub ghosts-run : goal.ghosts-run
ghosts-run g a = record {
  run = record {
    job = a.job.value;
    plan = plan_of a.job.value;
    told = g.V.Vault.tells && g.P.S.Spool.tells;
    stored = g.K.Keeper.last a.devices.keeper;
    rows = g.K.Keeper.stored a.devices.keeper;
    entries = g.V.Vault.held a.devices.vault;
    from = 0;
    keeper = g.K.Keeper.faults a.devices.keeper;
    vault = g.V.Vault.faults a.devices.vault;
    spools = g.P.Spools.faults a.devices.spools;
  };
}
