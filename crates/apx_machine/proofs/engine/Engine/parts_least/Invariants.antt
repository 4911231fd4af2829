use Rattle.std.proofs.Common.{◌≡◌}
use Rattle.apx_history.specs.State.{slot, lowest}
use Rattle.apx_machine.specs.Outlook.{measure}
use Rattle.apx_machine.proofs.engine.Engine.parts_least.Given as goal

abbrev pub invariant-loop-part : goal.invariant-loop-part
invariant-loop-part l = l.least ≡ lowest l.part (λ i. measure l.toward (slot l.self.state l.op i)) l.most
