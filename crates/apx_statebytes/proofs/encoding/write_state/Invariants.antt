use Rattle.std.proofs.Common.{◌≡◌, ◌++◌}
use Rattle.std.specs.List.{flat_map}
use Rattle.apx_statebytes.specs.Rows.{AreRows}
use Rattle.apx_statebytes.specs.Spelling.{row_spelling, rows_spelling}
use Rattle.apx_statebytes.proofs.encoding.write_state.Given as goal

abbrev pub invariant-loop-key : goal.invariant-loop-key
invariant-loop-key l = record {
  spelled : l.into.items ++ flat_map row_spelling l.key-iterator ≡ l.fn.into.items ++ rows_spelling l.fn.state;
  fit : AreRows l.key-iterator → AreRows l.fn.state;
}
