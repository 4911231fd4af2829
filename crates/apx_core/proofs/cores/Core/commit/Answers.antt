use Rattle.std.proofs.Common.{◌≡◌, true, List, sym, ap, subst, ◌∙◌}
use Rattle.apx_history.specs.declared.Event.TheVariants.{Commit}
use Rattle.apx_history.specs.State.{State}
use Rattle.apx_history.specs.Enabled.{can}
use Rattle.apx_device.specs.Vault.{Entry, entry_at}
use Rattle.apx_device.proofs.Lookups.{entry_at-from}
use Rattle.apx_held.proofs.Mapping.{fits_commit}
use Rattle.apx_core.specs.Core.{telling}
use Rattle.apx_core.proofs.Checkpoints.{dropped_so}
use Rattle.apx_core.proofs.Going.{core_answers}
use Rattle.apx_stores.specs.Crashes.{NoPut}
use Rattle.apx_stores.proofs.Crashing.{entries_begin}
use Rattle.apx_core.proofs.cores.Core.commit.Goals as goal

pub invariant_of-self : goal.invariant_of-self
invariant_of-self g c =
    let run = g.J.Naming.run in
    let vt = g.V.Vault.tells in
    let old = c.self.inside.stores in
    let entries = g.V.Vault.held old.vault in
    let entries' = g.V.Vault.held c.commit.new.self.vault in
    let may : can run.plan old.course.machine (Commit c.args.to) ≡ true =
    subst (λ (m : State). can run.plan m (Commit c.args.to) ≡ true) (sym (ap (λ s. s.stores.course.machine) c.self.view_is)) c.requires in (
      c.self.invariant.0,
      core_answers run vt entries old.course c.commit.new.self.course c.self.inside.contents c.self.invariant.1
          entries' c.self.inside.contents c.args.worker (Commit c.args.to) c.commit.result
          c.commit.ensures.did c.commit.ensures.stops c.commit.ensures.held
          (λ dropped fits. fits_commit run.job (telling run vt) (entry_at entries) (entry_at entries') old.course.machine c.self.inside.contents c.args.to fits
          (λ t id le. ap (λ (es : List Entry). entry_at es id) (dropped t) ∙ entry_at-from entries c.args.to id le))
          (λ dropped t. dropped_so run old.course.machine c.facts.ensures.history.is c.facts.ensures.kept c.args.to entries entries' may (dropped t)),
    )

pub returns-clause-crash : goal.returns-clause-crash
returns-clause-crash g c = λ t.
    entries_begin g.V.Vault.time g.V.Vault.left g.V.Vault.held NoPut c.args.self.now.stores.vault c.self.inside.stores.vault c.commit.new.self.vault (ap (λ x. x.stores.vault) c.self.view_is) (c.commit.ensures.crash t)
