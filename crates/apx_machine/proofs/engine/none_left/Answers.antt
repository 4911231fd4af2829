use Rattle.std.proofs.Common.{arith}
use Rattle.apx_machine.proofs.Lists.{met_none, met_one}
use Rattle.apx_machine.proofs.engine.none_left.Goals as goal

pub returns-then-flag : goal.returns-then-flag
returns-then-flag c = met_one c.args.flags.now c.loop-flag.flag-index (omega arith) c.if-flag.true

pub returns : goal.returns
returns c = met_none c.args.flags.now (λ k r. c.loop-flag.invariant k (omega arith))
