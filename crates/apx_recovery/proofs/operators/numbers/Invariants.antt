use Rattle.std.proofs.Common.{◌≡◌, get_or, false}
use Rattle.std.specs.List.{range_with_len, filter}
use Rattle.apx_recovery.proofs.operators.numbers.Given as goal

abbrev pub invariant-loop-op : goal.invariant-loop-op
invariant-loop-op l = l.ops.items ≡ filter (λ o. get_or l.marks o false) (range_with_len 0 l.op)
