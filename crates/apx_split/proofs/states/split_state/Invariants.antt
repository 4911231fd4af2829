use Rattle.std.proofs.Common.{◌≡◌, ◌++◌}
use Rattle.apx_order.specs.Sorted.{sorted, IsAscending}
use Rattle.apx_rules.specs.Parts.{pair_order, cut_state}
use Rattle.apx_split.specs.Kept.{AreOnce}
use Rattle.apx_split.proofs.states.split_state.Given as goal

abbrev pub invariant-loop-key : goal.invariant-loop-key
invariant-loop-key l = record {
  once : AreOnce (l.owned ++ cut_state l.n l.i l.key-iterator);
  same : sorted pair_order (l.owned ++ cut_state l.n l.i l.key-iterator) ≡ cut_state l.n l.i l.state;
  ordered : IsAscending pair_order l.owned;
}
