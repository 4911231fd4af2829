use Rattle.std.proofs.Common.{◌∙◌, ◌++◌, List, ap}
use Rattle.std.specs.List.{flat_map}
use Rattle.apx_tuple.specs.declared.tuple.Tuple.{Tuple}
use Rattle.apx_fold.specs.Telling.{told_of}
use Rattle.apx_fold.proofs.Cuts.{cut_all}
use Rattle.apx_fold.proofs.Tellings.{told_next}
use Rattle.apx_fold.proofs.told.tell_owned.Goals as goal

pub loop-tuple-preserved : goal.loop-tuple-preserved
loop-tuple-preserved c =
    told_next (told_of c.args.kind.now) c.args.share.now.n c.args.share.now.i c.args.told.now.items c.loop-tuple.told.items c.tell_if_owned.new.told.items c.args.tuples.now c.loop-tuple.tuple-index c.tuple-item.result
    c.loop-tuple-test.true c.tuple-item.is c.loop-tuple.invariant c.in_ok-tell_if_owned.ensures

pub returns : goal.returns
returns c =
    c.loop-tuple.invariant
    ∙ ap (λ (ts : List Tuple). c.args.told.now.items ++ flat_map (told_of c.args.kind.now) ts) (cut_all c.args.share.now.n c.args.share.now.i c.args.tuples.now c.loop-tuple.tuple-index c.loop-tuple-test.false)
