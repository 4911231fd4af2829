use Rattle.std.proofs.Common.{◌≡◌, map}
use Rattle.std.specs.List.{range_with_len}
use Rattle.apx_job.specs.Job.{operator_in}
use Rattle.apx_planned.proofs.plan.operators.Given as goal

abbrev pub invariant-loop-op : goal.invariant-loop-op
invariant-loop-op l = l.operators.items ≡ map (operator_in l.dag) (range_with_len 0 l.op)
