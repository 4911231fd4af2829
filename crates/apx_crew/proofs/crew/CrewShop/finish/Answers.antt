use Rattle.apx_history.specs.declared.Event.TheVariants.{Finish}
use Rattle.apx_crew.proofs.Claims.{adds_ok, stops_err}
use Rattle.apx_crew.proofs.crew.CrewShop.finish.Goals as goal

pub returns-clause-did : goal.returns-clause-did
returns-clause-did g c =
    adds_ok g.J.Naming.run.plan c.args.self.now.core.stores.course c.finish.new.self.stores.course c.args.claim.worker (Finish c.args.claim.op c.args.claim.part c.args.claim.window) c.finish.result c.finish.ensures.did

pub returns-clause-stops : goal.returns-clause-stops
returns-clause-stops g c =
    stops_err g.J.Naming.run.plan c.args.self.now.core.stores.course c.finish.new.self.stores.course c.args.claim.worker c.finish.result c.finish.ensures.stops
