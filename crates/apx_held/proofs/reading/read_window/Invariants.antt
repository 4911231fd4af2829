use Rattle.std.proofs.Common.{◌≡◌, ◌+◌, drop, length}
use Rattle.apx_list.specs.Listed.{before}
use Rattle.apx_held.proofs.Copies.{AreCopies}
use Rattle.apx_held.proofs.reading.read_window.Given as goal

abbrev pub invariant-loop-place : goal.invariant-loop-place
invariant-loop-place g l = record {
  same : l.list ≡ l.initial.list;
  copies : AreCopies g.S.Spool.tells l.initial.list.plan l.blocks.items (drop (before l.window l.initial.list.blocks) l.initial.list.blocks);
  count : l.from + length l.blocks.items ≡ l.place;
}
