use Rattle.std.proofs.Common.{◌≡◌, ◌++◌}
use Rattle.apx_order.specs.Sorted.{sorted, IsAscending}
use Rattle.apx_rules.specs.Parts.{pair_order}
use Rattle.apx_split.specs.Kept.{AreOnce}
use Rattle.apx_split.proofs.states.add_state.Given as goal

abbrev pub invariant-loop-key : goal.invariant-loop-key
invariant-loop-key l = record {
  once : AreOnce (l.into ++ l.key-iterator);
  same : sorted pair_order (l.into ++ l.key-iterator) ≡ sorted pair_order (l.fn.into ++ l.fn.part);
  ordered : IsAscending pair_order l.into;
}
