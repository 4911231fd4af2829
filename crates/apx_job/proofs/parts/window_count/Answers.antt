use Rattle.std.proofs.Common.{arith}
use Rattle.apx_job.proofs.Windows.{windows_of-none, windows_of-next, ord_max-nat}
use Rattle.apx_job.proofs.parts.window_count.Goals as goal

pub loop-input-init : goal.loop-input-init
loop-input-init c = omega (arith, windows_of-none)

pub loop-input-preserved : goal.loop-input-preserved
loop-input-preserved c = omega (arith, windows_of-next c.args.inputs.now c.loop-input.input-index c.input-item.result c.loop-input-test.true c.input-item.is, ord_max-nat)
