use Rattle.std.proofs.Common.{◌<◌, refl, ◌∙◌, arith}
use Rattle.apx_held.proofs.Recovering.{recovers_start, saved_spells}
use Rattle.apx_stores.specs.Crashes.{NoPut}
use Rattle.apx_stores.proofs.Crashing.{entries_stay, entries_end}
use Rattle.apx_reset.proofs.restoring.restored.Goals as goal

pub returns-then-id-eq0-clause-carried : goal.returns-then-id-eq0-clause-carried
returns-then-id-eq0-clause-carried g c = λ t.
    c.new.ensures ∙ recovers_start g.J.Naming.run.job c.args.id.op c.args.id.boundary c.args.id.part c.args.id.window c.if-id-eq0.true

pub spelled-requires-clause-spell : goal.spelled-requires-clause-spell
spelled-requires-clause-spell g c = λ tells.
    let run = g.J.Naming.run in
    let id = c.args.id in
    let positive : 0 < id.window = omega (arith, c.if-id-eq0.false) in
    let saved = c.requires.saved tells positive in
    record { progress = saved.progress; is = saved.small; spelled = saved_spells run.job run.told (g.V.Vault.held c.args.stores.now.vault) id c.in_ok-bytes.bytes.items saved (c.in_ok-bytes.ensures.bytes tells) }

pub returns-then-id-eq0-clause-crash : goal.returns-then-id-eq0-clause-crash
returns-then-id-eq0-clause-crash g c = λ t.
    entries_stay g.V.Vault.time g.V.Vault.left g.V.Vault.held NoPut c.args.stores.now.vault c.args.stores.now.vault refl (c.facts.ensures.settled c.requires.runs t)

pub returns-clause-crash : goal.returns-clause-crash
returns-clause-crash g c = λ t.
    entries_end g.V.Vault.time g.V.Vault.left g.V.Vault.held NoPut c.args.stores.now.vault c.fetch.new.self.vault c.spelled.new.stores.vault c.spelled.ensures.vault (c.fetch.ensures.crash t)
