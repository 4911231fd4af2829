use Rattle.std.proofs.Common.{◌≡◌, ◌++◌}
use Rattle.apx_plan.specs.Plan.{partitions_text}
use Rattle.apx_plan.proofs.plan.append_partitions.Given as goal

abbrev pub invariant-loop-partition : goal.invariant-loop-partition
invariant-loop-partition l = l.into.items ≡ l.initial.into.items ++ partitions_text l.n l.partition
