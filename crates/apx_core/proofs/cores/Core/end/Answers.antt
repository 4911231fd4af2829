use Rattle.std.proofs.Common.{◌≡◌, sym, ap, subst, true, refl}
use Rattle.apx_history.specs.declared.Event.TheVariants.{End}
use Rattle.apx_history.specs.State.{State}
use Rattle.apx_history.specs.Enabled.{can}
use Rattle.apx_device.specs.Vault.{entry_at}
use Rattle.apx_core.specs.Core.{telling, IsCore}
use Rattle.apx_core.proofs.Checkpoints.{left_so}
use Rattle.apx_core.proofs.Going.{core_answers}
use Rattle.apx_core.proofs.Changes.{fits_same}
use Rattle.apx_core.proofs.cores.Core.end.Goals as goal

pub invariant_of-self : goal.invariant_of-self
invariant_of-self g c =
    let run = g.J.Naming.run in
    let vt = g.V.Vault.tells in
    let old = c.self.inside.stores in
    let may : can run.plan old.course.machine End ≡ true = subst (λ (m : State). can run.plan m End ≡ true) (sym (ap (λ s. s.stores.course.machine) c.self.view_is)) c.requires in (
      c.self.invariant.0,
      subst (λ v. IsCore run vt (g.V.Vault.held v) c.pass.new.self.course c.self.inside.contents) (sym c.pass.ensures.vault)
          (core_answers run vt (g.V.Vault.held old.vault) old.course c.pass.new.self.course c.self.inside.contents c.self.invariant.1
          (g.V.Vault.held old.vault) c.self.inside.contents c.args.worker End c.pass.result
          c.pass.ensures.did c.pass.ensures.stops c.pass.ensures.did
          (λ _ fits. fits_same run.job (telling run vt) old.course.machine c.self.inside.contents (entry_at (g.V.Vault.held old.vault))
          (record old.course.machine { ended = true }) refl fits)
          (λ _ tells. left_so run old.course.machine c.facts.ensures.history.is c.facts.ensures.kept End _ _ may refl refl)),
    )
