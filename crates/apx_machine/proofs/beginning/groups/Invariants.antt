use Rattle.std.proofs.Common.{◌≡◌, map, take}
use Rattle.apx_machine.specs.Begun.{begun}
use Rattle.apx_machine.proofs.beginning.groups.Given as goal

abbrev pub invariant-loop-op : goal.invariant-loop-op
invariant-loop-op l = l.ops.items ≡ map (begun l.from) (take l.op l.plan.operators)
