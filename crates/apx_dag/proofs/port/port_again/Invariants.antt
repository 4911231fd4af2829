use Rattle.std.proofs.Common.{◌≡◌, [], take, drop}
use Rattle.apx_dag.specs.Ports.{used_again}
use Rattle.apx_dag.proofs.port.port_again.Given as goal

abbrev pub invariant-loop-i : goal.invariant-loop-i
invariant-loop-i l = used_again (take l.i l.streams) (drop l.i l.streams) ≡ used_again [] l.streams
