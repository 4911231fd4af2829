use Rattle.std.proofs.Common.{◌≡◌, ℕ, ◌<◌, drop, get_or}
use Rattle.apx_history.specs.Enabled.{limit, limit_in}
use Rattle.apx_machine.proofs.engine.Engine.limits.Given as goal

abbrev pub invariant-loop-line : goal.invariant-loop-line
invariant-loop-line l =
    (o : ℕ) → o < 16 → limit_in (drop l.line l.self.plan.lines) (drop l.line l.self.state.left) o (get_or l.limits o 0) ≡ limit l.self.plan l.self.state o
