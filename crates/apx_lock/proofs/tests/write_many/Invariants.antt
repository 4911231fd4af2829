use Rattle.std.proofs.Common.{◌≡◌, false}
use Rattle.apx_lock.specs.Seats.{IsSeatOf}
use Rattle.apx_lock.specs.Steps.{IsSameSeat}
use Rattle.apx_lock.proofs.tests.write_many.Given as goal

abbrev pub invariant-loop-number : goal.invariant-loop-number
invariant-loop-number g l =
    IsSeatOf l.lock.table.shared.table_id l.lock.table.shared.key l.seat × IsSameSeat l.fn.seat.view l.seat.view × (l.seat.view.holds ≡ false)
