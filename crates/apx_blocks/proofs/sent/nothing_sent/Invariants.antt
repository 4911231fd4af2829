use Rattle.std.proofs.Common.{◌≡◌, length}
use Rattle.apx_blocks.proofs.sent.nothing_sent.Given as goal

abbrev pub invariant-loop-op : goal.invariant-loop-op
invariant-loop-op l = length l.sent.items ≡ l._op
