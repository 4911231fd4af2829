use Rattle.std.proofs.Common.{◌≡◌, length}
use Rattle.apx_list.specs.Kept.{all_of, ArePut}
use Rattle.apx_list.proofs.kept.spill_front.Given as goal

abbrev pub invariant-loop-index : goal.invariant-loop-index
invariant-loop-index g l = record {
  blocks : all_of l.kept.items ≡ all_of l.initial.kept.items;
  len : length l.kept.items ≡ length l.initial.kept.items;
  put : ArePut g.S.Spool.tells (g.S.Spool.held l.initial.spool) l.first l.initial.kept.items → ArePut g.S.Spool.tells (g.S.Spool.held l.spool) l.first l.kept.items;
}
