use Rattle.std.proofs.Common.{◌≡◌, max, drop}
use Rattle.apx_history.specs.State.{slot}
use Rattle.apx_history.specs.Enabled.{greatest, readers_reach}
use Rattle.apx_machine.proofs.engine.Engine.advance_to.Given as goal

abbrev pub invariant-loop-place : goal.invariant-loop-place
invariant-loop-place l =
    max l.greatest (greatest (readers_reach l.self.plan l.self.state l.op) (drop l.place (slot l.self.state l.op l.part).saved))
    ≡ greatest (readers_reach l.self.plan l.self.state l.op) (slot l.self.state l.op l.part).saved
