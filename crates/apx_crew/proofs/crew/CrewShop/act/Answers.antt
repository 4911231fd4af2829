use Rattle.apx_crew.proofs.Claims.{adds_ok, stops_err}
use Rattle.apx_crew.proofs.crew.CrewShop.act.Goals as goal

pub returns-clause-did : goal.returns-clause-did
returns-clause-did g c =
    adds_ok g.J.Naming.run.plan c.args.self.now.core.stores.course c.alone.new.core.stores.course c.args.worker (c.args.event) c.alone.result c.alone.ensures.did

pub returns-clause-stops : goal.returns-clause-stops
returns-clause-stops g c =
    stops_err g.J.Naming.run.plan c.args.self.now.core.stores.course c.alone.new.core.stores.course c.args.worker c.alone.result c.alone.ensures.stops
