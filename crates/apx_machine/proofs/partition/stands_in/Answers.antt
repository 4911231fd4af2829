use Rattle.std.proofs.Common.{arith}
use Rattle.std.proofs.lemmas.Bool.Decides.{nat_tests}
use Rattle.apx_machine.proofs.Lists.{has_none, has_one}
use Rattle.apx_machine.proofs.partition.stands_in.Goals as goal

pub returns-then-w-window : goal.returns-then-w-window
returns-then-w-window c = has_one c.args.windows.now c.args.window c.loop-w.w-index (omega arith) (grind (arith, nat_tests))

pub returns : goal.returns
returns c = has_none c.args.windows.now c.args.window (λ k r. c.loop-w.invariant k (omega arith))
