use Rattle.std.proofs.Common.{◌≡◌, sym, subst}
use Rattle.apx_history.specs.Plan.{Plan}
use Rattle.apx_history.specs.Kept.{IsPlan}
use Rattle.apx_history.proofs.Instances.{small_is}
use Rattle.apx_machine.proofs.tests.a_run_comes_to_its_end.Goals as goal

pub new-requires-clause-plan : goal.new-requires-clause-plan
new-requires-clause-plan g c = subst (λ (p : Plan). IsPlan p) (sym c.in_ok-chain.ensures) small_is
