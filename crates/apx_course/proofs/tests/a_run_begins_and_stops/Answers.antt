use Rattle.std.proofs.Common.{sym, subst}
use Rattle.apx_history.specs.Plan.{Plan}
use Rattle.apx_history.specs.Kept.{IsPlan}
use Rattle.apx_history.proofs.Instances.{small_is}
use Rattle.apx_course.proofs.tests.a_run_begins_and_stops.Goals as goal

pub begin_and_stop-requires-clause-is : goal.begin_and_stop-requires-clause-is
begin_and_stop-requires-clause-is g c = subst (λ (p : Plan). IsPlan p) (sym c.in_ok-chain.ensures) small_is
