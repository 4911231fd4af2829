use Rattle.std.proofs.Common.{arith, ◌∙◌, sym}
use Rattle.apx_job.proofs.Epochs.{boundary-counts, boundary-other, boundary-later, boundary-past}
use Rattle.apx_job.proofs.Windows.{ord_max-nat}
use Rattle.apx_job.proofs.command.boundary_in.Goals as goal
use Rattle.apx_job.proofs.command.boundary_in.Goals.{then-splits+then-command-window, else-splits, else-splits-via-then-splits+else-command-window, else-splits-via-else-splits}

pub loop-command-preserved : goal.loop-command-preserved
loop-command-preserved c = elim c.if-splits.branch [
  | then-splits+then-command-window w ↦
      let next = boundary-counts c.args.commands.now c.loop-command.command-index _ c.loop-command-test.true c.args.op c.args.window (sym c.splits.ensures ∙ w.if-splits.true) w.if-command-window.true in
      omega (arith, next, c.loop-command.invariant, w.boundary-is, w.max-boundary.ensures, ord_max-nat)
  | else-splits w ↦ elim w.else-splits.branch [
    | else-splits-via-then-splits+else-command-window v ↦
        let next = boundary-later c.args.commands.now c.loop-command.command-index _ c.loop-command-test.true c.args.op c.args.window v.if-command-window.false in
        omega (arith, next, c.loop-command.invariant, w.boundary-is)
    | else-splits-via-else-splits v ↦
        let next = boundary-other c.args.commands.now c.loop-command.command-index _ c.loop-command-test.true c.args.op c.args.window (sym c.splits.ensures ∙ v.if-splits.false) in
        omega (arith, next, c.loop-command.invariant, w.boundary-is)
  ]
]

pub returns : goal.returns
returns c = omega (arith, c.loop-command.invariant, boundary-past c.args.commands.now c.loop-command.command-index c.args.op c.args.window c.loop-command-test.false)
