use Rattle.std.proofs.Common.{◌≡◌, replicate}
use Rattle.apx_history.specs.State.{fresh}
use Rattle.apx_machine.proofs.group.Group.fresh.Given as goal

abbrev pub invariant-loop-done : goal.invariant-loop-done
invariant-loop-done l = l.parts.items ≡ replicate l.done (fresh l.window)
