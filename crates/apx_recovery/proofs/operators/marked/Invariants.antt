use Rattle.std.proofs.Common.{◌≡◌, get_or, false}
use Rattle.apx_recovery.specs.Sets.{set_of}
use Rattle.apx_recovery.proofs.operators.marked.Given as goal

abbrev pub invariant-loop-op : goal.invariant-loop-op
invariant-loop-op l = l.set ≡ set_of l.op (λ o. get_or l.marks o false)
