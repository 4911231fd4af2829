use Rattle.std.proofs.Common.{◌≡◌, take, drop, []}
use Rattle.apx_job.specs.Job.{late_reason, first_refused_behind}
use Rattle.apx_job.proofs.judge.judge_last.Given as goal

abbrev pub invariant-loop-line : goal.invariant-loop-line
invariant-loop-line l = first_refused_behind (λ earlier. late_reason l.parts) [] l.parts.script ≡ first_refused_behind (λ earlier. late_reason l.parts) (take l.line-index l.line-items) (drop l.line-index l.line-items)
