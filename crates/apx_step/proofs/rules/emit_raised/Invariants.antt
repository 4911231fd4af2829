use Rattle.std.proofs.Common.{◌≡◌, ◌++◌, take, Some}
use Rattle.apx_rules.specs.Rule.{with_entry_added, tuples_of}
use Rattle.apx_step.specs.Walk.{values}
use Rattle.apx_step.proofs.rules.emit_raised.Given as goal

abbrev pub invariant-loop-tuple : goal.invariant-loop-tuple
invariant-loop-tuple l = l.emitted.items ≡ l.initial.emitted.items ++ tuples_of l.key (with_entry_added (Some l.more) (values (take l.tuple-index l.tuples)))
