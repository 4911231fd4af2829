use Rattle.std.proofs.Common.{◌≤◌, IsTrue, length}
use Rattle.apx_top.proofs.Sending.{HasSent}
use Rattle.apx_top.proofs.write.write_all.Given as goal

abbrev pub invariant-loop-rest : goal.invariant-loop-rest
invariant-loop-rest g l = record {
  sent : IsTrue g.O.Out.tells → HasSent l.piece l.rest (g.O.Out.written l.initial.out) (g.O.Out.written l.out);
  later : g.O.Out.faults l.initial.out ≤ g.O.Out.faults l.out;
}

abbrev pub decreases-loop-rest : goal.decreases-loop-rest
decreases-loop-rest g l = length l.rest
