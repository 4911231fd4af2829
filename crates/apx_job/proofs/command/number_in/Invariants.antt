use Rattle.std.proofs.Common.{◌≡◌, drop}
use Rattle.apx_history.specs.Plan.{number_in}
use Rattle.apx_job.proofs.command.number_in.Given as goal

abbrev pub invariant-loop-command : goal.invariant-loop-command
invariant-loop-command l = number_in l.commands l.op l.boundary l.first ≡ number_in (drop l.command-index l.commands) l.op l.boundary l.first
