use Rattle.std.proofs.Common.{◌≡◌}
use Rattle.apx_blocks.proofs.tests.rows.Given as goal

abbrev pub invariant-loop-window : goal.invariant-loop-window
invariant-loop-window l = l.run ≡ record { job = l.job; passed = l._window }
