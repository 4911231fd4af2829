use Rattle.std.proofs.Common.{◌≡◌, ◌+◌, drop}
use Rattle.apx_pass.specs.Pass.{sink_of}
use Rattle.apx_dag.proofs.dag.Dag.sink.Given as goal

abbrev pub invariant-loop-op : goal.invariant-loop-op
invariant-loop-op l = sink_of l.self ≡ l.op + sink_of (drop l.op l.self)
