use Rattle.std.proofs.Common.{◌≡◌, ◌++◌, take}
use Rattle.apx_rules.specs.Rule.{scale_rule}
use Rattle.apx_step.specs.Walk.{values}
use Rattle.apx_step.proofs.rules.emit_scaled.Given as goal

abbrev pub invariant-loop-tuple : goal.invariant-loop-tuple
invariant-loop-tuple l = l.emitted.items ≡ l.initial.emitted.items ++ (scale_rule l.factor l.key (values (take l.tuple-index l.tuples))).emitted
