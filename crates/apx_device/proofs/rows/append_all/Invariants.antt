use Rattle.std.proofs.Common.{◌≡◌, ◌++◌, take}
use Rattle.apx_device.specs.Rows.{rows_bytes}
use Rattle.apx_device.proofs.Spelled.{AreRows}
use Rattle.apx_device.proofs.rows.append_all.Given as goal

abbrev pub invariant-loop-row : goal.invariant-loop-row
invariant-loop-row l = record {
  bytes : l.into.items ≡ l.fn.into.items ++ rows_bytes (take l.row-index l.rows);
  rows : AreRows (take l.row-index l.rows);
}
