use Rattle.apx_history.specs.declared.Event.TheVariants.{Kill}
use Rattle.apx_crew.proofs.Claims.{adds_ok, stops_err}
use Rattle.apx_crew.proofs.crew.CrewShop.kill.Goals as goal

pub kill-requires-clause-claim : goal.kill-requires-clause-claim
kill-requires-clause-claim g c = record { taken = tt; none = c.requires.nobody }

pub returns-clause-did : goal.returns-clause-did
returns-clause-did g c =
    adds_ok g.J.Naming.run.plan c.args.self.now.core.stores.course c.kill.new.self.stores.course c.args.worker (Kill c.args.line) c.kill.result c.kill.ensures.did

pub returns-clause-stops : goal.returns-clause-stops
returns-clause-stops g c =
    stops_err g.J.Naming.run.plan c.args.self.now.core.stores.course c.kill.new.self.stores.course c.args.worker c.kill.result c.kill.ensures.stops
