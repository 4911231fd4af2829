use Rattle.std.proofs.Common.{◌≡◌, map, take}
use Rattle.apx_job.specs.Job.{command_in}
use Rattle.apx_job.proofs.command.commands_in.Given as goal

abbrev pub invariant-loop-line : goal.invariant-loop-line
invariant-loop-line l = l.commands.items ≡ map (command_in l.dag) (take l.line-index l.lines)
