use Rattle.std.proofs.Common.{◌≡◌, take, drop, []}
use Rattle.apx_job.specs.Job.{reason, first_refused_behind}
use Rattle.apx_job.proofs.judge.judge_first.Given as goal

abbrev pub invariant-loop-k : goal.invariant-loop-k
invariant-loop-k l = first_refused_behind (reason l.parts) [] l.parts.script ≡ first_refused_behind (reason l.parts) (take l.k l.lines) (drop l.k l.lines)
