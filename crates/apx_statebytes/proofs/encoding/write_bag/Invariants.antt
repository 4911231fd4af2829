use Rattle.std.proofs.Common.{◌≡◌, ◌++◌, map, drop}
use Rattle.std.specs.List.{flat_map}
use Rattle.apx_statebytes.specs.Rows.{row_of, AreRows}
use Rattle.apx_statebytes.specs.Spelling.{row_spelling, rows_spelling}
use Rattle.apx_statebytes.proofs.encoding.write_bag.Given as goal

abbrev pub invariant-loop-tuple : goal.invariant-loop-tuple
invariant-loop-tuple l = record {
  spelled : l.into.items ++ flat_map row_spelling (map row_of (drop l.tuple-index l.tuples)) ≡ l.fn.into.items ++ rows_spelling (map row_of l.tuples);
  fit : AreRows (map row_of (drop l.tuple-index l.tuples)) → AreRows (map row_of l.tuples);
}
