use Rattle.std.proofs.Common.{◌≡◌, [], take, drop}
use Rattle.apx_dag.specs.Ports.{sink_again}
use Rattle.apx_dag.proofs.port.sink_again.Given as goal

abbrev pub invariant-loop-j : goal.invariant-loop-j
invariant-loop-j l = sink_again l.earlier (take l.j l.sinks) (drop l.j l.sinks) ≡ sink_again l.earlier [] l.sinks
