use Rattle.std.proofs.Common.{◌&&◌}
use Rattle.apx_sim.proofs.Told.{both_told, if_ok}
use Rattle.apx_crew.proofs.whole.run_by_threads.Goals as goal

pub run-requires-clause-tells : goal.run-requires-clause-tells
run-requires-clause-tells g c = λ _ _ t. both_told g.V.Vault.tells g.P.S.Spool.tells t

pub returns-clause-store : goal.returns-clause-store
returns-clause-store g c =
    if_ok c.run.result
    (λ r h is. record {
      fits = λ t.
          let all = both_told g.K.Keeper.tells (g.V.Vault.tells && g.P.S.Spool.tells) t in
          h (record { told = all.1; keeper_tells = all.0; rows = is });
    })
    c.run.ensures.store
