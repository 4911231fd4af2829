use Rattle.std.proofs.Common.{◌≡◌, ◌+◌, ◌≤◌}
use Rattle.std.specs.Prelude.{vec_len, vec_capacity}
use Rattle.apx_work.specs.Workers.{AreDealt}
use Rattle.apx_work.proofs.threads.deal.Given as goal

abbrev pub invariant-loop-dealt : goal.invariant-loop-dealt
invariant-loop-dealt g l =
    AreDealt l.lock.table.shared.table_id l.lock.table.shared.key (l.dealt + 1) l.first l.seats.items
    × (vec_len l.seats ≡ l.dealt) × (l.others ≤ vec_capacity l.seats)
