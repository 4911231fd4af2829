use Rattle.apx_history.specs.declared.Event.TheVariants.{Write}
use Rattle.apx_crew.proofs.Claims.{adds_ok, stops_err}
use Rattle.apx_crew.proofs.crew.CrewShop.write.Goals as goal

pub returns-clause-did : goal.returns-clause-did
returns-clause-did g c =
    adds_ok g.J.Naming.run.plan c.args.self.now.core.stores.course c.write.new.self.stores.course c.args.claim.now.worker (Write c.args.claim.now.window) c.write.result c.write.ensures.did

pub returns-clause-stops : goal.returns-clause-stops
returns-clause-stops g c =
    stops_err g.J.Naming.run.plan c.args.self.now.core.stores.course c.write.new.self.stores.course c.args.claim.now.worker c.write.result c.write.ensures.stops
