use Rattle.std.proofs.Common.{sym, subst}
use Rattle.apx_history.specs.Plan.{Plan}
use Rattle.apx_history.specs.Kept.{IsPlan}
use Rattle.apx_history.proofs.Instances.{small_is}
use Rattle.apx_held.proofs.tests.operators_begin_with_their_partitions_and_go_on_with_others.Goals as goal

pub new-requires-clause-plan : goal.new-requires-clause-plan
new-requires-clause-plan g c = subst (λ (p : Plan). IsPlan p) (sym c.in_ok-chain.ensures) small_is
