use Rattle.std.proofs.Common.{arith}
use Rattle.apx_history.specs.State.{slot, parts, lowest}
use Rattle.apx_machine.proofs.Loops.{lowest_none, lowest_more}
use Rattle.apx_machine.proofs.engine.Engine.least_rc.Goals as goal

pub loop-op-init : goal.loop-op-init
loop-op-init c = lowest_none (λ o. lowest (parts c.args.self.now.state o) (λ i. (slot c.args.self.now.state o i).rc) c.windows-windows.result) c.windows-windows.result

pub loop-op-preserved : goal.loop-op-preserved
loop-op-preserved c = lowest_more (λ o. lowest (parts c.args.self.now.state o) (λ i. (slot c.args.self.now.state o i).rc) c.windows-windows.result) c.windows-windows.result
    c.loop-op.op c.loop-op.least c.min-least.result c.loop-op.invariant (omega (arith, c.min-least.ensures, c.parts_least.ensures))
