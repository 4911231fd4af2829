use Rattle.std.proofs.Common.{◌≡◌, true}
use Rattle.apx_history.specs.State.{all_below, all_parts}
use Rattle.apx_machine.specs.Asked.{meets}
use Rattle.apx_machine.proofs.engine.Engine.all_meet.Given as goal

abbrev pub invariant-loop-op : goal.invariant-loop-op
invariant-loop-op l = all_below l.op (λ o. all_parts l.self.state o (meets l.self.plan l.self.state l.ask o)) ≡ true
