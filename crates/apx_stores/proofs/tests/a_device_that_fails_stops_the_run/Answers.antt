use Rattle.std.proofs.Common.{sym, subst}
use Rattle.apx_history.specs.Plan.{Plan}
use Rattle.apx_history.specs.Kept.{IsPlan}
use Rattle.apx_history.proofs.Instances.{small_is}
use Rattle.apx_stores.proofs.tests.a_device_that_fails_stops_the_run.Goals as goal

pub drive-requires-clause-is : goal.drive-requires-clause-is
drive-requires-clause-is g c = subst (λ (p : Plan). IsPlan p) (sym c.in_ok-chain.ensures) small_is
