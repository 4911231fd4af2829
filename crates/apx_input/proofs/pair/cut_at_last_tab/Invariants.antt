use Rattle.std.proofs.Common.{◌≡◌, drop, None}
use Rattle.apx_pass.specs.Pairs.{at_last_tab}
use Rattle.apx_input.proofs.pair.cut_at_last_tab.Given as goal

abbrev pub invariant-loop-at : goal.invariant-loop-at
invariant-loop-at l = at_last_tab (drop l.at l.line) ≡ None
