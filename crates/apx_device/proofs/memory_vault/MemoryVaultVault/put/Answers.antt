use Rattle.std.proofs.Common.{◌≡◌, rules, ap, ◌∙◌}
use Rattle.apx_device.specs.Vault.{with_entry}
use Rattle.apx_device.specs.MemoryVault.{entries_in}
use Rattle.apx_device.proofs.Saves.{entries-insert}
use Rattle.apx_device.proofs.memory_vault.MemoryVaultVault.put.Goals as goal

pub returns-in-Ok-insert-clause-held : goal.returns-in-Ok-insert-clause-held
returns-in-Ok-insert-clause-held c =
    let same : c.in-Ok.copied.items ≡ c.args.bytes.now = search rules in
    λ told. ap entries_in c.in-Ok-insert.ensures.entries ∙ entries-insert c.args.self.now.entries.entries c.args.id c.in-Ok.copied ∙ ap (λ bs. with_entry (entries_in c.args.self.now.entries.entries) c.args.id bs) same
