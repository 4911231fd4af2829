use Rattle.std.proofs.Common.{arith}
use Rattle.std.proofs.lemmas.Bool.Decides.{nat_tests}
use Rattle.apx_machine.proofs.Lists.{has_none, has_one}
use Rattle.apx_machine.proofs.plan.stands_in.Goals as goal

pub returns-then-n-number : goal.returns-then-n-number
returns-then-n-number c = has_one c.args.numbers.now c.args.number c.loop-n.n-index (omega arith) (grind (arith, nat_tests))

pub returns : goal.returns
returns c = has_none c.args.numbers.now c.args.number (λ k r. c.loop-n.invariant k (omega arith))
