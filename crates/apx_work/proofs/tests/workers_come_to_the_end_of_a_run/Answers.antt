use Rattle.std.proofs.Common.{sym, subst}
use Rattle.apx_history.specs.Plan.{Plan}
use Rattle.apx_history.specs.Kept.{IsPlan}
use Rattle.apx_history.proofs.Instances.{small_is}
use Rattle.apx_work.proofs.tests.workers_come_to_the_end_of_a_run.Goals as goal

pub done_by-requires-clause-is : goal.done_by-requires-clause-is
done_by-requires-clause-is g c = λ _. subst (λ (p : Plan). IsPlan p) (sym c.in_ok-chain.ensures) small_is

pub done_by-requires-2-clause-is : goal.done_by-requires-2-clause-is
done_by-requires-2-clause-is g c = λ _. subst (λ (p : Plan). IsPlan p) (sym c.in_ok-chain-2.ensures) small_is

pub done_by-requires-3-clause-is : goal.done_by-requires-3-clause-is
done_by-requires-3-clause-is g c = λ _. subst (λ (p : Plan). IsPlan p) (sym c.in_ok-chain-3.ensures) small_is
