use Rattle.std.proofs.Common.{arith}
use Rattle.apx_machine.proofs.Reach.{rests_beyond}
use Rattle.apx_machine.proofs.engine.Engine.rests_at.Goals as goal

pub returns-else-op-len : goal.returns-else-op-len
returns-else-op-len c = rests_beyond c.args.self.now.state c.args.op c.args.window (omega arith)
