use Rattle.std.proofs.Common.{length}
use Rattle.apx_list.proofs.Checked.{Reads}
use Rattle.apx_list.proofs.checking.behind_tuples.Given as goal

abbrev pub invariant-loop-alloc : goal.invariant-loop-alloc
invariant-loop-alloc l = Reads l.bytes l.latest l.rest

abbrev pub decreases-loop-alloc : goal.decreases-loop-alloc
decreases-loop-alloc l = length l.rest
