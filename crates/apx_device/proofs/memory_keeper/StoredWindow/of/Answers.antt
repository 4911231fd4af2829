use Rattle.std.proofs.Common.{arith}
use Rattle.apx_device.proofs.Spelled.{rows-few}
use Rattle.apx_device.proofs.memory_keeper.StoredWindow.of.Goals as goal

pub overflow_cast-result : goal.overflow_cast-result
overflow_cast-result c = omega (arith, rows-few c.args.rows.now)
