use Rattle.std.specs.VecDeque.{deque_len}
use Rattle.apx_list.proofs.Spilling.{Dropping}
use Rattle.apx_list.proofs.kept.drop_front.Given as goal

abbrev pub invariant-loop-front : goal.invariant-loop-front
invariant-loop-front g l = Dropping g.S.Spool.tells (g.S.Spool.held l.initial.spool) (g.S.Spool.held l.spool) l.first l.to l.count l.initial.kept.items l.kept.items

abbrev pub decreases-loop-front : goal.decreases-loop-front
decreases-loop-front g l = deque_len l.kept
