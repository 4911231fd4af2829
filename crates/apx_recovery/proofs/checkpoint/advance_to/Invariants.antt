use Rattle.apx_recovery.proofs.Steps.{IsSoFar}
use Rattle.apx_recovery.proofs.checkpoint.advance_to.Given as goal

abbrev pub invariant-loop-window : goal.invariant-loop-window
invariant-loop-window l = IsSoFar l.saved l.downstream l.window-index l.greatest
