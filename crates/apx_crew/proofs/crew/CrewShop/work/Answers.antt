use Rattle.std.proofs.Common.{ap}
use Rattle.apx_crew.specs.Crew.{claimed}
use Rattle.apx_crew.proofs.Claims.{may_stop}
use Rattle.apx_crew.proofs.crew.CrewShop.work.Goals as goal

pub returns-clause-claim : goal.returns-clause-claim
returns-clause-claim g c = ap claimed c.work.ensures.out

pub returns-clause-may : goal.returns-clause-may
returns-clause-may g c = may_stop g.J.Naming.run c.work.result c.work.ensures.cause
