use Rattle.std.proofs.Common.{◌≡◌, max, drop}
use Rattle.apx_history.specs.Plan.{boundary_in}
use Rattle.apx_job.proofs.command.boundary_in.Given as goal

abbrev pub invariant-loop-command : goal.invariant-loop-command
invariant-loop-command l = boundary_in l.commands l.op l.window ≡ max l.boundary (boundary_in (drop l.command-index l.commands) l.op l.window)
