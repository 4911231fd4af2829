use Rattle.apx_core.proofs.Going.{core_stops}
use Rattle.apx_core.proofs.cores.Core.fail.Goals as goal

pub invariant_of-self : goal.invariant_of-self
invariant_of-self g c = (
  c.self.invariant.0,
  core_stops g.J.Naming.run g.V.Vault.tells (g.V.Vault.held c.self.inside.stores.vault) c.self.inside.stores.course c.stop.new.self.course
      c.self.inside.contents c.self.invariant.1 _ _ c.args.worker (c.args.fault, c.stop.ensures.stops),
)
