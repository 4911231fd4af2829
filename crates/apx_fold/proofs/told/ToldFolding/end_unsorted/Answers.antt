use Rattle.std.proofs.Common.{refl}
use Rattle.std.specs.List.{flat_map}
use Rattle.apx_tuple.specs.Tuple.{bag_of}
use Rattle.apx_fold.specs.Folding.{owned, stepped}
use Rattle.apx_fold.specs.Folds.{told_part}
use Rattle.apx_fold.specs.Telling.{told_of}
use Rattle.apx_fold.proofs.Tellings.{told-step}
use Rattle.apx_fold.proofs.Ends.{rows-given}
use Rattle.apx_fold.proofs.told.ToldFolding.end_unsorted.Goals as goal

pub returns-clause-ok : goal.returns-clause-ok
returns-clause-ok c = λ lefts rights stands.
    let fold = c.args.self in
    rows-given (stepped (told_part fold) c.args._window c.args._state lefts rights) fold.told.items (flat_map (told_of fold.kind) (owned (told_part fold) lefts)) (bag_of fold.told.items) c.new.result (told-step fold.kind fold.telling fold.share.n fold.share.i c.args._window c.args._state lefts rights) stands c.new.ensures refl
