use Rattle.std.proofs.Common.{◌+◌, length}
use Rattle.apx_step.proofs.Walks.{IsWalking}
use Rattle.apx_step.proofs.walk.walk.Given as goal

abbrev pub invariant-loop-key : goal.invariant-loop-key
invariant-loop-key l = IsWalking l.kind l.fn.start l.left l.right l.state l.emitted.items l.lefts l.rights

abbrev pub decreases-loop-key : goal.decreases-loop-key
decreases-loop-key l = length l.lefts + length l.rights
