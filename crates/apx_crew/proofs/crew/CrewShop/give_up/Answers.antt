use Rattle.std.proofs.Common.{ℕ, OnOk, OnErr, sym, subst}
use Rattle.apx_history.specs.declared.Event.TheVariants.{Kill}
use Rattle.apx_work.specs.Turns.{Adds, Stops}
use Rattle.apx_crew.proofs.Claims.{adds_ok, stops_err}
use Rattle.apx_crew.proofs.crew.CrewShop.give_up.Goals as goal

pub kill-requires-clause-claim : goal.kill-requires-clause-claim
kill-requires-clause-claim g c = record { taken = (c.requires.claim, c.requires.opened, sym c.worker-worker.ensures); none = tt }

pub returns-clause-did : goal.returns-clause-did
returns-clause-did g c =
    subst (λ (k : ℕ). OnOk c.kill.result (Adds k (Kill c.args.line) c.args.self.now.core.stores.course.journal c.kill.new.self.stores.course.journal)) c.worker-worker.ensures
    (adds_ok g.J.Naming.run.plan c.args.self.now.core.stores.course c.kill.new.self.stores.course c.worker-worker.result (Kill c.args.line) c.kill.result c.kill.ensures.did)

pub returns-clause-stops : goal.returns-clause-stops
returns-clause-stops g c =
    subst (λ (k : ℕ). OnErr c.kill.result (Stops k c.args.self.now.core.stores.course.journal c.kill.new.self.stores.course.journal)) c.worker-worker.ensures
    (stops_err g.J.Naming.run.plan c.args.self.now.core.stores.course c.kill.new.self.stores.course c.worker-worker.result c.kill.result c.kill.ensures.stops)
