use Rattle.apx_machine.specs.Outlook.{IsCalmTo}
use Rattle.apx_machine.proofs.engine.Engine.calm.Given as goal

abbrev pub invariant-loop-line : goal.invariant-loop-line
invariant-loop-line l = IsCalmTo l.self.plan l.self.state l.line l.calm
