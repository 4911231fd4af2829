use Rattle.std.proofs.Common.{◌≡◌}
use Rattle.apx_history.specs.State.{slot, parts, lowest}
use Rattle.apx_machine.proofs.engine.Engine.least_rc.Given as goal

abbrev pub invariant-loop-op : goal.invariant-loop-op
invariant-loop-op l = l.least ≡ lowest l.op (λ o. lowest (parts l.self.state o) (λ i. (slot l.self.state o i).rc) l.windows) l.windows
