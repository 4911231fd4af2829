use Rattle.std.proofs.Common.{arith}
use Rattle.apx_history.specs.State.{no_oper}
use Rattle.apx_machine.specs.Changed.{gone_back}
use Rattle.apx_machine.proofs.Mapped.{mapped}
use Rattle.apx_machine.proofs.changes.go_back.Goals as goal

pub returns : goal.returns
returns c = mapped (λ o p. gone_back c.args.plan.now c.args.it o p) no_oper c.args.ops.now c.loop-op.ops (omega arith) (λ k r. c.loop-op.invariant.done k (omega arith))
