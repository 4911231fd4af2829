use Rattle.std.proofs.Common.{sym, subst}
use Rattle.apx_history.specs.Plan.{Plan}
use Rattle.apx_history.specs.Kept.{IsPlan}
use Rattle.apx_history.proofs.Instances.{small_is}
use Rattle.apx_drive.proofs.tests.a_run_is_driven_to_its_end.Goals as goal

pub driven-requires-clause-is : goal.driven-requires-clause-is
driven-requires-clause-is g c = subst (λ (p : Plan). IsPlan p) (sym c.in_ok-chain.ensures) small_is

pub driven-requires-2-clause-is : goal.driven-requires-2-clause-is
driven-requires-2-clause-is g c = subst (λ (p : Plan). IsPlan p) (sym c.in_ok-chain-2.ensures) small_is

pub driven-requires-3-clause-is : goal.driven-requires-3-clause-is
driven-requires-3-clause-is g c = subst (λ (p : Plan). IsPlan p) (sym c.in_ok-chain-3.ensures) small_is
