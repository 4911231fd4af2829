use Rattle.std.proofs.Common.{◌∙◌, ◌++◌, take, ap, List}
use Rattle.apx_order.specs.Sorted.{sorted}
use Rattle.apx_tuple.specs.declared.tuple.Tuple.{Tuple}
use Rattle.apx_rules.specs.Parts.{cut_bag}
use Rattle.apx_rules.specs.Step.{rank_order}
use Rattle.apx_fold.proofs.Cuts.{cut_onto, cut_all}
use Rattle.apx_fold.proofs.best.consider_owned.Goals as goal

pub loop-tuple-preserved : goal.loop-tuple-preserved
loop-tuple-preserved c =
    let n = c.args.share.now.n in
    let i = c.args.share.now.i in
    let so_far = c.loop-tuple.invariant in
    record {
      ranked = c.consider_if_owned.ensures.ranked;
      few = c.consider_if_owned.ensures.few;
      first = λ before was.
          c.in_ok-consider_if_owned.ensures.first (before ++ cut_bag n i (take c.loop-tuple.tuple-index c.args.tuples.now)) (so_far.first before was)
          ∙ ap (λ (ts : List Tuple). take c.args.k (sorted rank_order ts)) (cut_onto n i before c.args.tuples.now c.loop-tuple.tuple-index c.tuple-item.result c.loop-tuple-test.true c.tuple-item.is);
    }

pub returns-clause-first : goal.returns-clause-first
returns-clause-first c = λ before was.
    c.loop-tuple.invariant.first before was
    ∙ ap (λ (ts : List Tuple). take c.args.k (sorted rank_order (before ++ ts))) (cut_all c.args.share.now.n c.args.share.now.i c.args.tuples.now c.loop-tuple.tuple-index c.loop-tuple-test.false)
