use Rattle.std.proofs.Common.{◌≡◌, take}
use Rattle.apx_rules.specs.Rule.{total}
use Rattle.apx_step.specs.Walk.{values}
use Rattle.apx_step.proofs.rules.total.Given as goal

abbrev pub invariant-loop-tuple : goal.invariant-loop-tuple
invariant-loop-tuple l = l.sum ≡ total l.start (values (take l.tuple-index l.tuples))
