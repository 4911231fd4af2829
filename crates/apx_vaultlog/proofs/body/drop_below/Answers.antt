use Rattle.std.proofs.Common.{rules, ap, ◌∙◌, nat_le}
use Rattle.std.proofs.lemmas.Map.Made.{filter_same_pairs}
use Rattle.apx_device.specs.MemoryVault.{entries_in}
use Rattle.apx_device.proofs.Saves.{entries-from}
use Rattle.apx_vaultlog.proofs.body.drop_below.Goals as goal

pub returns-clause-dropped : goal.returns-clause-dropped
returns-clause-dropped c =
    ap entries_in (filter_same_pairs _ (λ e. nat_le c.args.window e.0.window) _ (λ k v b w f' t. search rules) _ _ c.retain.ensures.filtered)
    ∙ entries-from c.args.window c.args.entries.now.entries
