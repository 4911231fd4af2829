use Rattle.std.proofs.Common.{◌≡◌, ◌≤◌, ◌++◌, List, length, take}
use Rattle.apx_order.specs.Sorted.{sorted}
use Rattle.apx_tuple.specs.declared.tuple.Tuple.{Tuple}
use Rattle.apx_rules.specs.Parts.{cut_bag}
use Rattle.apx_rules.specs.Step.{rank_order}
use Rattle.apx_fold.specs.Ranked.{AreRanked}
use Rattle.apx_fold.proofs.best.consider_owned.Given as goal

abbrev pub invariant-loop-tuple : goal.invariant-loop-tuple
invariant-loop-tuple l = record {
  ranked : AreRanked l.first.items;
  few : length l.first.items ≤ l.k;
  first : (before : List Tuple) → l.fn.first.items ≡ take l.k (sorted rank_order before) →
      l.first.items ≡ take l.k (sorted rank_order (before ++ cut_bag l.share.n l.share.i (take l.tuple-index l.tuples)));
}
