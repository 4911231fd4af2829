use Rattle.std.proofs.Common.{◌≡◌, ◌++◌, take}
use Rattle.apx_pass.specs.Texts.{rows_text}
use Rattle.apx_report.proofs.append_rows.Given as goal

abbrev pub invariant-loop-row : goal.invariant-loop-row
invariant-loop-row l = l.into.items ≡ l.initial.into.items ++ rows_text (take l.row-index l.rows)
