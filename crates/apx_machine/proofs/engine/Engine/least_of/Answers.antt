use Rattle.std.proofs.Common.{arith}
use Rattle.apx_history.specs.State.{parts, lowest}
use Rattle.apx_machine.specs.Outlook.{asked}
use Rattle.apx_machine.proofs.Loops.{lowest_none, lowest_more}
use Rattle.apx_machine.proofs.engine.Engine.least_of.Goals as goal

pub loop-other-init : goal.loop-other-init
loop-other-init c = lowest_none (λ t. lowest (parts c.args.self.now.state t) (asked c.args.self.now.plan c.args.self.now.state c.args.toward c.args.op c.args.most t) c.args.most) c.args.most

pub loop-other-preserved : goal.loop-other-preserved
loop-other-preserved c = lowest_more (λ t. lowest (parts c.args.self.now.state t) (asked c.args.self.now.plan c.args.self.now.state c.args.toward c.args.op c.args.most t) c.args.most) c.args.most
    c.loop-other.other c.loop-other.least c.min-least.result c.loop-other.invariant (omega (arith, c.min-least.ensures, c.joined_least.ensures))
