use Rattle.std.proofs.Common.{◌≡◌}
use Rattle.apx_pass.specs.Order.{stands_in}
use Rattle.apx_mean.specs.Kept.{reads_from}
use Rattle.apx_mean.proofs.came.is_read_from.Given as goal

abbrev pub invariant-loop-place : goal.invariant-loop-place
invariant-loop-place l = stands_in (reads_from l.dag l.order l.place) l.source ≡ stands_in (reads_from l.dag l.order l.from) l.source
