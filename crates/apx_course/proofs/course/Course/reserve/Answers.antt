use Rattle.apx_history.proofs.Legal.{can_facts}
use Rattle.apx_course.proofs.course.Course.reserve.Goals as goal

pub returns-clause-enabled : goal.returns-clause-enabled
returns-clause-enabled g c = can_facts g.J.Naming.run.plan _ _ c.requires
