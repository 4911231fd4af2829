use Rattle.std.proofs.Common.{◌≡◌}
use Rattle.apx_history.specs.State.{parts, lowest}
use Rattle.apx_machine.specs.Outlook.{asked}
use Rattle.apx_machine.proofs.engine.Engine.least_of.Given as goal

abbrev pub invariant-loop-other : goal.invariant-loop-other
invariant-loop-other l = l.least ≡ lowest l.other (λ t. lowest (parts l.self.state t) (asked l.self.plan l.self.state l.toward l.op l.most t) l.most) l.most
