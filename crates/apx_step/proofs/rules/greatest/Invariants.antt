use Rattle.std.proofs.Common.{◌≡◌, take}
use Rattle.apx_rules.specs.Rule.{greatest}
use Rattle.apx_step.specs.Walk.{values}
use Rattle.apx_step.proofs.rules.greatest.Given as goal

abbrev pub invariant-loop-tuple : goal.invariant-loop-tuple
invariant-loop-tuple l = l.peak ≡ greatest l.initial.peak (values (take l.tuple-index l.tuples))
