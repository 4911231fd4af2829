use Rattle.std.proofs.Common.{◌≡◌, ℕ, ◌<◌, length, get_or}
use Rattle.apx_machine.specs.Outlook.{least_of}
use Rattle.apx_machine.proofs.engine.Engine.along.Given as goal

abbrev pub invariant-loop-op : goal.invariant-loop-op
invariant-loop-op l = record {
  wide : length l.least ≡ 16;
  done : (o : ℕ) → o < l.op → get_or l.least o 0 ≡ least_of l.self.plan l.self.state l.toward o 4294967295;
}
