use Rattle.std.proofs.Common.{◌≡◌, replicate, None}
use Rattle.apx_hands.proofs.row.Row.new.Given as goal

abbrev pub invariant-loop-done : goal.invariant-loop-done
invariant-loop-done g l = l.cells.items ≡ replicate l.done None
