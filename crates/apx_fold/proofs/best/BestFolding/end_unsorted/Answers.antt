use Rattle.std.proofs.Common.{refl, take}
use Rattle.apx_order.specs.Sorted.{sorted}
use Rattle.apx_rules.specs.Step.{rank_order}
use Rattle.apx_tuple.specs.Tuple.{bag_of}
use Rattle.apx_fold.specs.Folding.{owned, stepped}
use Rattle.apx_fold.specs.Folds.{best_part}
use Rattle.apx_fold.proofs.Bests.{best-step}
use Rattle.apx_fold.proofs.Ends.{rows-given}
use Rattle.apx_fold.proofs.best.BestFolding.end_unsorted.Goals as goal

pub returns-clause-ok : goal.returns-clause-ok
returns-clause-ok c = λ lefts rights stands.
    let fold = c.args.self in
    rows-given (stepped (best_part fold) c.args._window c.args._state lefts rights) fold.first.items (take fold.k (sorted rank_order (owned (best_part fold) lefts))) (bag_of fold.first.items) c.new.result (best-step fold.k fold.share.n fold.share.i c.args._window c.args._state lefts rights) stands c.new.ensures refl
