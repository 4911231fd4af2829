use Rattle.std.proofs.Common.{ap, ◌∙◌}
use Rattle.apx_device.specs.MemoryVault.{entries_in}
use Rattle.apx_device.proofs.Saves.{entries-insert}
use Rattle.apx_vaultlog.proofs.body.overwrite.Goals as goal

pub returns-clause-put : goal.returns-clause-put
returns-clause-put c = ap entries_in c.in-Ok.ensures.entries ∙ entries-insert c.args.entries.now.entries c.args.id c.args.bytes
