use Rattle.std.proofs.Common.{◌≡◌, true, None, sym, ap, ◌∙◌}
use Rattle.apx_history.specs.State.{State, running}
use Rattle.apx_course.proofs.Journals.{no_status, no_fault}
use Rattle.apx_history.proofs.Legal.{can_runs}
use Rattle.apx_course.specs.declared.faults.CoreFault.TheVariants.{Memory}
use Rattle.apx_stores.proofs.Wholes.{whole_same, whole_own}
use Rattle.apx_stores.proofs.Stopping.{stored_stays}
use Rattle.apx_stores.proofs.Crashing.{durable_same}
use Rattle.apx_stores.proofs.stores.Stores.try_add.Goals as goal

pub invariant_of-self : goal.invariant_of-self
invariant_of-self g c = (
  c.self.invariant.0,
  whole_same g.J.Naming.run _ _ _ _ _ _ _ _ _ c.self.invariant.1 _ _
      (ap (λ (m : State). m.stored) c.in-Ok.ensures.did.machine
      ∙ stored_stays g.J.Naming.run.plan c.self.inside.course.machine c.args.worker c.args.event c.requires.calm)
      c.in-Ok.ensures.did.fault,
  durable_same g.J.Naming.run g.K.Keeper.tells _ _ (g.K.Keeper.left c.self.inside.keeper (g.K.Keeper.time c.self.inside.keeper)) (ap (λ (m : State). m.stored) c.in-Ok.ensures.did.machine
      ∙ stored_stays g.J.Naming.run.plan c.self.inside.course.machine c.args.worker c.args.event c.requires.calm) c.self.invariant.2,
)

pub invariant_of-self-in-Err : goal.invariant_of-self-in-Err
invariant_of-self-in-Err g c =
    let runs : running c.self.inside.course.machine ≡ true = ap (λ s. running s.course.machine) c.self.view_is ∙ can_runs g.J.Naming.run.plan c.args.self.now.course.machine c.args.event c.requires.can in
    let none : c.self.inside.course.fault ≡ None = no_fault _ (sym c.facts.ensures.same ∙ no_status c.self.inside.course.machine runs) in (
      c.self.invariant.0,
      whole_own g.J.Naming.run _ _ _ _ _ _ _ _ _ c.self.invariant.1 Memory _ _ none
          (ap (λ (m : State). m.stored) c.stop.ensures.machine ∙ ap (λ (m : State). m.stored) c.in-Err.ensures.machine)
          c.stop.ensures.fault tt,
      durable_same g.J.Naming.run g.K.Keeper.tells _ _ (g.K.Keeper.left c.self.inside.keeper (g.K.Keeper.time c.self.inside.keeper)) (ap (λ (m : State). m.stored) c.stop.ensures.machine ∙ ap (λ (m : State). m.stored) c.in-Err.ensures.machine) c.self.invariant.2,
    )
