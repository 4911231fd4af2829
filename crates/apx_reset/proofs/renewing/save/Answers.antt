use Rattle.std.proofs.Common.{ℕ, ◌<◌, List, length, sym, subst, ◌∙◌}
use Rattle.apx_held.proofs.Lengths.{spelled_small}
use Rattle.apx_stores.specs.Crashes.{IsPut}
use Rattle.apx_stores.proofs.Crashing.{entries_stay, entries_weaker}
use Rattle.apx_reset.specs.Put.{IsProgressPut}
use Rattle.apx_reset.proofs.renewing.save.Goals as goal

pub keep-requires-clause-small : goal.keep-requires-clause-small
keep-requires-clause-small g c =
    subst (λ (bytes : List ℕ). length bytes < 4294967280) (sym c.deref.ensures.value)
    (spelled_small c.args.progress.now c.in-Ok.bytes.items c.requires.small c.in-Ok.ensures.spelled)

pub returns-in-Ok-clause-crash : goal.returns-in-Ok-clause-crash
returns-in-Ok-clause-crash g c = λ t.
    entries_weaker g.V.Vault.time g.V.Vault.left g.V.Vault.held (IsProgressPut c.args.id c.args.progress.now) (IsPut c.args.id c.deref.result.now)
    (λ other found put. record { at = put.0; bytes = put.1 ∙ (c.deref.ensures.value ∙ c.in-Ok.ensures.spelled); small = c.in-Ok.ensures.progress })
    c.args.stores.now.vault c.keep.new.self.vault (c.keep.ensures.crash t)

pub returns-in-Err-clause-crash : goal.returns-in-Err-clause-crash
returns-in-Err-clause-crash g c = λ t.
    entries_stay g.V.Vault.time g.V.Vault.left g.V.Vault.held (IsProgressPut c.args.id c.args.progress.now) c.args.stores.now.vault c.stop.new.self.vault c.stop.ensures.vault (c.facts.ensures.settled c.requires.runs t)
