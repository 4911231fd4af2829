use Rattle.std.proofs.Common.{◌∙◌, sym, ap}
use Rattle.std.specs.Prelude.{Some}
use Rattle.apx_pass.specs.Script.{Line}
use Rattle.apx_job.specs.Job.{reason}
use Rattle.apx_job.proofs.Judging.{behind-here, behind-other, behind-past}
use Rattle.apx_job.proofs.judge.judge_first.Goals as goal

pub returns-in-Some : goal.returns-in-Some
returns-in-Some c =
    c.loop-k.invariant
    ∙ behind-here (reason c.args.parts.now) c.lines-lines.result.now c.loop-k.k c.index-lines-k.result c.in-Some.why c.loop-k-test.true c.index-lines-k.is (sym c.reason.ensures ∙ c.in-Some.is)
    ∙ ap (λ (line : Line). Some (record { line = line.number; why = c.in-Some.why })) (sym c.line.view_is)

pub loop-k-preserved : goal.loop-k-preserved
loop-k-preserved c = c.loop-k.invariant ∙ behind-other (reason c.args.parts.now) c.lines-lines.result.now c.loop-k.k c.index-lines-k.result c.loop-k-test.true c.index-lines-k.is (sym c.reason.ensures ∙ c.in_default.is)

pub returns : goal.returns
returns c = c.loop-k.invariant ∙ behind-past (reason c.args.parts.now) c.lines-lines.result.now c.loop-k.k c.loop-k-test.false
