use Rattle.std.proofs.Common.{◌≡◌, List, ℕ, rules, ap, ◌∙◌}
use Rattle.apx_device.specs.Vault.{with_entry}
use Rattle.apx_device.specs.MemoryVault.{entries_in}
use Rattle.apx_device.proofs.Saves.{entries-insert}
use Rattle.apx_vaultlog.proofs.body.put.Goals as goal

pub returns-in-Ok-clause-put : goal.returns-in-Ok-clause-put
returns-in-Ok-clause-put c =
    let same : c.in_ok-copied.copied.items ≡ c.args.bytes.now = search rules in
    ap entries_in c.in-Ok.ensures.entries ∙ entries-insert c.args.entries.now.entries c.args.id c.in_ok-copied.copied
    ∙ ap (λ (bytes : List ℕ). with_entry (entries_in c.args.entries.now.entries) c.args.id bytes) same
