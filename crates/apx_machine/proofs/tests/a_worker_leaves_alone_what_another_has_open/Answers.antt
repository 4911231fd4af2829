use Rattle.std.proofs.Common.{◌≡◌, sym, subst}
use Rattle.apx_history.specs.Plan.{Plan}
use Rattle.apx_history.specs.Kept.{IsPlan}
use Rattle.apx_history.proofs.Instances.{small_is}
use Rattle.apx_machine.proofs.tests.a_worker_leaves_alone_what_another_has_open.Goals as goal

pub resumed-requires-clause-plan : goal.resumed-requires-clause-plan
resumed-requires-clause-plan g c = subst (λ (p : Plan). IsPlan p) (sym c.in_ok-chain.ensures) small_is
