use Rattle.std.proofs.Common.{◌≡◌}
use Rattle.apx_lock.proofs.Telling.{Waits}
use Rattle.apx_lock.proofs.lock.MarkLock.enter.Given as goal

abbrev pub invariant-loop : goal.invariant-loop
invariant-loop g l =
    (goal.iterator-loop g).can_next l.iterator' × (goal.iterator-loop g).is_finite l.iterator' × (l.seat.table ≡ l.initial.seat.table) × Waits g.V.Kept.seat g.V.Kept.bound l.initial.seat.view l.seat.view
