use Rattle.apx_lock.specs.Seats.{IsSeatOf}
use Rattle.apx_work.specs.Hands.{Holds}
use Rattle.apx_work.proofs.Seating.{Stands}
use Rattle.apx_work.proofs.worker.work.Given as goal

abbrev pub invariant-loop : goal.invariant-loop
invariant-loop g l =
    let k = g.S.Shop in
    (goal.iterator-loop g).can_next l.iterator' × (goal.iterator-loop g).is_finite l.iterator'
    × IsSeatOf l.lock.table.shared.table_id l.lock.table.shared.key l.seat
    × Stands l.initial.seat.view l.seat.view
    × Holds k.claimed k.is_whole k.made k.may_stop k.plan l.seat.view.number l.seat.view.mine l.hand
