use Rattle.std.proofs.Common.{◌≡◌, ◌++◌, take}
use Rattle.apx_rules.specs.Rule.{keep_rule}
use Rattle.apx_step.specs.Walk.{values}
use Rattle.apx_step.proofs.rules.emit_kept.Given as goal

abbrev pub invariant-loop-tuple : goal.invariant-loop-tuple
invariant-loop-tuple l = l.emitted.items ≡ l.initial.emitted.items ++ (keep_rule l.min l.max l.key (values (take l.tuple-index l.tuples))).emitted
