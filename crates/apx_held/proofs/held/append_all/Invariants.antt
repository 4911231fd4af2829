use Rattle.std.proofs.Common.{◌≡◌, drop, length}
use Rattle.apx_held.specs.Holding.{with_blocks, AreNext}
use Rattle.apx_held.proofs.held.append_all.Given as goal

abbrev pub invariant-loop-block : goal.invariant-loop-block
invariant-loop-block g l = record {
  same : with_blocks l.list (drop (length l.yielded) l.fn.blocks.items) ≡ with_blocks l.initial.list l.fn.blocks.items;
  next : AreNext l.list (drop (length l.yielded) l.fn.blocks.items);
}
