use Rattle.apx_recovery.proofs.Steps.{IsLeastSoFar}
use Rattle.apx_recovery.proofs.checkpoint.committed.Given as goal

abbrev pub invariant-loop-checkpoint : goal.invariant-loop-checkpoint
invariant-loop-checkpoint l = IsLeastSoFar l.checkpoints l.checkpoint-index l.least
