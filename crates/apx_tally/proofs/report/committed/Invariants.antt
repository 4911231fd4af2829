use Rattle.std.proofs.Common.{◌≡◌, take}
use Rattle.apx_tally.specs.Report.{committed}
use Rattle.apx_tally.proofs.report.committed.Given as goal

abbrev pub invariant-loop-entry : goal.invariant-loop-entry
invariant-loop-entry l = l.last ≡ committed (take l.entry-index l.entries)
