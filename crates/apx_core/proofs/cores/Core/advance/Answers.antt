use Rattle.std.proofs.Common.{◌≡◌, true, refl, sym, ap, subst}
use Rattle.apx_history.specs.declared.Event.TheVariants.{Advance}
use Rattle.apx_history.specs.State.{State}
use Rattle.apx_history.specs.Enabled.{can}
use Rattle.apx_history.specs.Conditions.{CanAdvance}
use Rattle.apx_history.proofs.Legal.{can_facts}
use Rattle.apx_device.specs.Vault.{entry_at}
use Rattle.apx_held.proofs.Fitting.{fits_advance}
use Rattle.apx_core.specs.Core.{telling, IsCore}
use Rattle.apx_core.proofs.Checkpoints.{left_so}
use Rattle.apx_core.proofs.Going.{core_answers}
use Rattle.apx_core.proofs.cores.Core.advance.Goals as goal

pub invariant_of-self : goal.invariant_of-self
invariant_of-self g c =
    let run = g.J.Naming.run in
    let vt = g.V.Vault.tells in
    let old = c.self.inside.stores in
    let machine : c.self.inside.stores.course.machine ≡ c.args.self.now.stores.course.machine = ap (λ s. s.stores.course.machine) c.self.view_is in
    let e = Advance c.args.id.op c.args.id.part c.args.to in
    let may : can run.plan c.self.inside.stores.course.machine (Advance c.args.id.op c.args.id.part c.args.to) ≡ true =
    subst (λ (m : State). can run.plan m (Advance c.args.id.op c.args.id.part c.args.to) ≡ true) (sym machine) c.requires in
    let is : CanAdvance run.plan c.self.inside.stores.course.machine c.args.id.op c.args.id.part c.args.to = can_facts run.plan c.self.inside.stores.course.machine e may in (
      c.self.invariant.0,
      subst (λ v. IsCore run vt (g.V.Vault.held v) c.pass.new.self.course c.self.inside.contents) (sym c.pass.ensures.vault)
          (core_answers run vt (g.V.Vault.held old.vault) old.course c.pass.new.self.course c.self.inside.contents c.self.invariant.1
          (g.V.Vault.held old.vault) c.self.inside.contents c.args.worker (Advance c.args.id.op c.args.id.part c.args.to) c.pass.result
          c.pass.ensures.did c.pass.ensures.stops c.pass.ensures.did
          (λ _ fits. fits_advance run.job (telling run vt) (entry_at (g.V.Vault.held old.vault)) old.course.machine c.self.inside.contents
          c.args.id.op c.args.id.part fits is.part c.args.to)
          (λ _ tells. left_so run old.course.machine c.facts.ensures.history.is c.facts.ensures.kept e _ _ may refl refl)),
    )
