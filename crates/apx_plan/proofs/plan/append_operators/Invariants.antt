use Rattle.std.proofs.Common.{◌≡◌, ◌++◌, take}
use Rattle.apx_plan.specs.Plan.{operators_text}
use Rattle.apx_plan.proofs.plan.append_operators.Given as goal

abbrev pub invariant-loop-place : goal.invariant-loop-place
invariant-loop-place l = l.into.items ≡ l.initial.into.items ++ operators_text l.dag (take l.place l.order)
