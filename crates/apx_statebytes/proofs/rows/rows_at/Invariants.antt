use Rattle.std.proofs.Common.{◌≡◌, ◌-◌, None}
use Rattle.apx_statebytes.specs.Reading.{rows_at}
use Rattle.apx_statebytes.proofs.Loop.{with_front, last_row}
use Rattle.apx_statebytes.proofs.rows.rows_at.Given as goal

abbrev pub invariant-loop : goal.invariant-loop
invariant-loop l = with_front l.rows.items (rows_at l.each_once l.total (l.count - l.counter) l.left (last_row l.rows.items) l.rest) ≡ rows_at l.each_once l.total l.count l.room None l.bytes
