use Rattle.std.proofs.Common.{◌∙◌, sym, ap}
use Rattle.std.specs.Prelude.{Some}
use Rattle.apx_pass.specs.Script.{Line}
use Rattle.apx_job.specs.Job.{late_reason}
use Rattle.apx_job.proofs.Judging.{behind-here, behind-other, behind-past}
use Rattle.apx_job.proofs.judge.judge_last.Goals as goal

pub returns-in-Some : goal.returns-in-Some
returns-in-Some c =
    c.loop-line.invariant
    ∙ behind-here (λ earlier. late_reason c.args.parts.now) c.lines-line-items.result.now c.loop-line.line-index c.line-item.result c.in-Some.why c.loop-line-test.true c.line-item.is (sym c.late_reason.ensures ∙ c.in-Some.is)
    ∙ ap (λ (line : Line). Some (record { line = line.number; why = c.in-Some.why })) (sym c.line.view_is)

pub loop-line-preserved : goal.loop-line-preserved
loop-line-preserved c = c.loop-line.invariant ∙ behind-other (λ earlier. late_reason c.args.parts.now) c.lines-line-items.result.now c.loop-line.line-index c.line-item.result c.loop-line-test.true c.line-item.is (sym c.late_reason.ensures ∙ c.in_default.is)

pub returns : goal.returns
returns c = c.loop-line.invariant ∙ behind-past (λ earlier. late_reason c.args.parts.now) c.lines-line-items.result.now c.loop-line.line-index c.loop-line-test.false
