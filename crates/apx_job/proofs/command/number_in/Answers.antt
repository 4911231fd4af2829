use Rattle.std.proofs.Common.{◌∙◌, sym}
use Rattle.apx_job.proofs.Epochs.{number-here, number-other, number-elsewhere, number-past}
use Rattle.apx_job.proofs.command.number_in.Goals as goal
use Rattle.apx_job.proofs.command.number_in.Goals.{else-splits-via-then-splits+else-command-boundary, else-splits-via-else-splits}

pub returns-then-command-boundary : goal.returns-then-command-boundary
returns-then-command-boundary c =
    c.count_or.ensures
    ∙ sym (c.loop-command.invariant ∙ number-here c.args.commands.now c.loop-command.command-index _ c.loop-command-test.true c.args.op c.args.boundary c.args.first (sym c.splits.ensures ∙ c.if-splits.true) c.if-command-boundary.true)

pub loop-command-preserved : goal.loop-command-preserved
loop-command-preserved c = elim c.else-splits.branch [
  | else-splits-via-then-splits+else-command-boundary w ↦ c.loop-command.invariant ∙ number-elsewhere c.args.commands.now c.loop-command.command-index _ c.loop-command-test.true c.args.op c.args.boundary c.args.first w.if-command-boundary.false
  | else-splits-via-else-splits w ↦ c.loop-command.invariant ∙ number-other c.args.commands.now c.loop-command.command-index _ c.loop-command-test.true c.args.op c.args.boundary c.args.first (sym c.splits.ensures ∙ w.if-splits.false)
]

pub returns : goal.returns
returns c = sym (c.loop-command.invariant ∙ number-past c.args.commands.now c.loop-command.command-index c.args.op c.args.boundary c.args.first c.loop-command-test.false)
