use Rattle.std.proofs.Common.{◌∙◌}
use Rattle.apx_vaultlog.proofs.Held.{is_held}
use Rattle.apx_vaultlog.proofs.vault_log.VaultLog.holds.Goals as goal

pub returns : goal.returns
returns g c = c.contains_key.ensures ∙ is_held c.args.self.now.entries.entries c.args.id
