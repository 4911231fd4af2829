use Rattle.std.proofs.Common.{◌≡◌, true}
use Rattle.apx_history.specs.State.{all_below}
use Rattle.apx_machine.specs.Asked.{meets}
use Rattle.apx_machine.proofs.engine.Engine.parts_meet.Given as goal

abbrev pub invariant-loop-part : goal.invariant-loop-part
invariant-loop-part l = all_below l.part (meets l.self.plan l.self.state l.ask l.op) ≡ true
