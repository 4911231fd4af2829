use Rattle.std.proofs.Common.{length}
use Rattle.apx_wire.proofs.tests.hand_out.Given as goal

abbrev pub decreases-loop-message : goal.decreases-loop-message
decreases-loop-message l = length l.decoder.held
