use Rattle.std.proofs.Common.{length}
use Rattle.apx_list.proofs.Appending.{Fills}
use Rattle.apx_list.proofs.tests.filled.Given as goal

abbrev pub invariant-loop-block : goal.invariant-loop-block
invariant-loop-block g l = Fills (record {}) l.fn.plan (length l.fn.blocks.items) l.yielded l.list
