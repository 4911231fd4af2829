use Rattle.apx_fold.specs.Telling.{told_of}
use Rattle.apx_fold.proofs.Tellings.{told_behind}
use Rattle.apx_fold.proofs.told.tell_moved.Goals as goal

pub loop-tuple-preserved : goal.loop-tuple-preserved
loop-tuple-preserved c =
    told_behind (told_of c.args.kind.now) c.args.share.now.n c.args.share.now.i c.args.told.now.items c.loop-tuple.told.items c.tell_moved_if_owned.new.told.items c.loop-tuple.yielded c.in-Some.tuple
    c.loop-tuple.invariant c.in_ok-tell_moved_if_owned.ensures
