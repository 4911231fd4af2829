use Rattle.std.proofs.Common.{◌∙◌, ◌++◌, List, ap}
use Rattle.apx_tuple.specs.declared.tuple.Tuple.{Tuple}
use Rattle.apx_fold.proofs.Cuts.{cut_next, cut_all}
use Rattle.apx_fold.proofs.share.Share.copy_owned.Goals as goal

pub loop-tuple-preserved : goal.loop-tuple-preserved
loop-tuple-preserved c =
    cut_next c.args.self.now.n c.args.self.now.i c.args.into.now.items c.loop-tuple.into.items c.add_copy.new.into.items c.args.tuples.now c.loop-tuple.tuple-index c.tuple-item.result
    c.loop-tuple-test.true c.tuple-item.is c.loop-tuple.invariant c.in_ok-add_copy.ensures

pub returns : goal.returns
returns c =
    c.loop-tuple.invariant
    ∙ ap (λ (ts : List Tuple). c.args.into.now.items ++ ts) (cut_all c.args.self.now.n c.args.self.now.i c.args.tuples.now c.loop-tuple.tuple-index c.loop-tuple-test.false)
