use Rattle.apx_stores.proofs.Crashing.{entries_end}
use Rattle.apx_reset.specs.Put.{IsProgressPut}
use Rattle.apx_reset.proofs.renewing.renew_part.Goals as goal

pub returns-in_err-spool-clause-crash : goal.returns-in_err-spool-clause-crash
returns-in_err-spool-clause-crash g c = λ t.
    entries_end g.V.Vault.time g.V.Vault.left g.V.Vault.held (IsProgressPut c.args.id c.args.progress) c.args.stores.now.vault c.save.new.stores.vault c.fresh.new.self.vault c.fresh.ensures.vault (c.save.ensures.crash t)

pub returns-clause-crash : goal.returns-clause-crash
returns-clause-crash g c = λ t.
    entries_end g.V.Vault.time g.V.Vault.left g.V.Vault.held (IsProgressPut c.args.id c.args.progress) c.args.stores.now.vault c.save.new.stores.vault c.fresh.new.self.vault c.fresh.ensures.vault (c.save.ensures.crash t)
