use Rattle.std.proofs.Common.{◌≡◌, ◌++◌}
use Rattle.apx_plan.specs.Plan.{keys_text}
use Rattle.apx_plan.proofs.plan.append_keys.Given as goal

abbrev pub invariant-loop-class : goal.invariant-loop-class
invariant-loop-class l = l.into.items ≡ l.initial.into.items ++ keys_text l.n l.partition l.class
