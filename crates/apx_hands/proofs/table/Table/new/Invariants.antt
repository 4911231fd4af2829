use Rattle.std.proofs.Common.{◌≡◌, replicate, None}
use Rattle.apx_hands.proofs.table.Table.new.Given as goal

abbrev pub invariant-loop-done : goal.invariant-loop-done
invariant-loop-done g l = l.rows.items ≡ replicate l.done (replicate 8 None)
