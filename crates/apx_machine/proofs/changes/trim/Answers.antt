use Rattle.std.proofs.Common.{arith}
use Rattle.apx_history.specs.State.{no_oper, map_from}
use Rattle.apx_history.specs.Effects.{trimmed}
use Rattle.apx_machine.proofs.Mapped.{mapped}
use Rattle.apx_machine.proofs.changes.trim.Goals as goal

pub returns : goal.returns
returns c = mapped (λ o p. record { boundary = p.boundary; parts = map_from 0 (λ i. trimmed c.args.window) p.parts }) no_oper c.args.ops.now c.loop-op.ops (omega arith) (λ k r. c.loop-op.invariant.done k (omega arith))
