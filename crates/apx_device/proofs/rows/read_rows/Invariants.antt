use Rattle.std.proofs.Common.{◌≡◌, ◌-◌}
use Rattle.apx_device.specs.Rows.{rows_in}
use Rattle.apx_device.proofs.Spelled.{ahead}
use Rattle.apx_device.proofs.rows.read_rows.Given as goal

abbrev pub invariant-loop-done : goal.invariant-loop-done
invariant-loop-done l =
    rows_in l.count l.bytes ≡ ahead l.rows.items (rows_in (l.count - l.done) l.rest)
