use Rattle.std.proofs.Common.{◌≡◌, ◌++◌, take}
use Rattle.apx_rules.specs.Rule.{tuples_of}
use Rattle.apx_step.specs.Walk.{values}
use Rattle.apx_step.proofs.rules.emit_as.Given as goal

abbrev pub invariant-loop-tuple : goal.invariant-loop-tuple
invariant-loop-tuple l = l.emitted.items ≡ l.initial.emitted.items ++ tuples_of l.key (values (take l.tuple-index l.tuples))
