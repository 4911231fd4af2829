use Rattle.apx_history.specs.declared.Event.TheVariants.{Start}
use Rattle.apx_crew.proofs.Claims.{adds_ok, stops_err, claim_is}
use Rattle.apx_crew.proofs.crew.CrewShop.start.Goals as goal

pub returns-clause-claim : goal.returns-clause-claim
returns-clause-claim g c =
    claim_is c.start.result c.args.op c.args.part c.args.window c.args.worker c.start.ensures.op c.start.ensures.part c.start.ensures.window c.start.ensures.worker

pub returns-clause-did : goal.returns-clause-did
returns-clause-did g c =
    adds_ok g.J.Naming.run.plan c.args.self.now.core.stores.course c.start.new.self.stores.course c.args.worker (Start c.args.op c.args.part c.args.window) c.start.result c.start.ensures.did

pub returns-clause-stops : goal.returns-clause-stops
returns-clause-stops g c =
    stops_err g.J.Naming.run.plan c.args.self.now.core.stores.course c.start.new.self.stores.course c.args.worker c.start.result c.start.ensures.stops
