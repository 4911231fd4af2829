use Rattle.std.proofs.Common.{ap, ◌∙◌}
use Rattle.apx_history.specs.State.{State}
use Rattle.apx_course.specs.declared.faults.CoreFault.TheVariants.{Memory}
use Rattle.apx_stores.proofs.Wholes.{whole_same, whole_own}
use Rattle.apx_stores.proofs.Crashing.{durable_same}
use Rattle.apx_stores.proofs.stores.Stores.reserve.Goals as goal

pub invariant_of-self : goal.invariant_of-self
invariant_of-self g c = (
  c.self.invariant.0,
  whole_same g.J.Naming.run _ _ _ _ _ _ _ _ _ c.self.invariant.1 _ _ (ap (λ (m : State). m.stored) c.reserve.ensures.machine) c.reserve.ensures.fault,
  durable_same g.J.Naming.run g.K.Keeper.tells _ _ (g.K.Keeper.left c.self.inside.keeper (g.K.Keeper.time c.self.inside.keeper)) (ap (λ (m : State). m.stored) c.reserve.ensures.machine) c.self.invariant.2,
)

pub invariant_of-self-in-Err : goal.invariant_of-self-in-Err
invariant_of-self-in-Err g c = (
  c.self.invariant.0,
  whole_own g.J.Naming.run _ _ _ _ _ _ _ _ _ c.self.invariant.1 Memory _ _ c.reserve.ensures.none
      (ap (λ (m : State). m.stored) c.stop.ensures.machine ∙ ap (λ (m : State). m.stored) c.reserve.ensures.machine)
      c.stop.ensures.fault tt,
  durable_same g.J.Naming.run g.K.Keeper.tells _ _ (g.K.Keeper.left c.self.inside.keeper (g.K.Keeper.time c.self.inside.keeper)) (ap (λ (m : State). m.stored) c.stop.ensures.machine ∙ ap (λ (m : State). m.stored) c.reserve.ensures.machine) c.self.invariant.2,
)
