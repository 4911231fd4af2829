use Rattle.std.proofs.Common.{ap, ◌∙◌}
use Rattle.apx_history.specs.State.{State}
use Rattle.apx_stores.proofs.Wholes.{whole_same}
use Rattle.apx_stores.proofs.Stopping.{stored_stays}
use Rattle.apx_stores.proofs.Crashing.{durable_same}
use Rattle.apx_stores.proofs.stores.Stores.add.Goals as goal

pub invariant_of-self : goal.invariant_of-self
invariant_of-self g c = (
  c.self.invariant.0,
  whole_same g.J.Naming.run _ _ _ _ _ _ _ _ _ c.self.invariant.1 _ _
      (ap (λ (m : State). m.stored) c.add.ensures.machine
      ∙ stored_stays g.J.Naming.run.plan c.self.inside.course.machine c.args.worker c.args.event c.requires.calm)
      c.add.ensures.fault,
  durable_same g.J.Naming.run g.K.Keeper.tells _ _ (g.K.Keeper.left c.self.inside.keeper (g.K.Keeper.time c.self.inside.keeper)) (ap (λ (m : State). m.stored) c.add.ensures.machine
      ∙ stored_stays g.J.Naming.run.plan c.self.inside.course.machine c.args.worker c.args.event c.requires.calm) c.self.invariant.2,
)
