use Rattle.std.proofs.Common.{[]}
use Rattle.std.proofs.lemmas.Result.{err_from_is_err_and}
use Rattle.std.specs.List.{flat_map}
use Rattle.apx_fold.specs.Folding.{owned, owned_state, stepped}
use Rattle.apx_fold.specs.Folds.{told_part}
use Rattle.apx_fold.specs.Telling.{told_of}
use Rattle.apx_fold.proofs.Tellings.{told-step}
use Rattle.apx_fold.proofs.Ends.{rows-given, rows-too-large}
use Rattle.apx_fold.proofs.told.ToldFolding.end.Goals as goal

pub returns-in_err-rows-clause-large : goal.returns-in_err-rows-clause-large
returns-in_err-rows-clause-large c = λ h lefts rights stands.
    let fold = c.args.self in
    let p = err_from_is_err_and c.from_residual.result c.from_residual.ensures.1 in
    rows-too-large (stepped (told_part fold) c.args._window (owned_state (told_part fold) c.args._state.now) lefts rights) fold.told.items (flat_map (told_of fold.kind) (owned (told_part fold) lefts)) [] [] (told-step fold.kind fold.telling fold.share.n fold.share.i c.args._window (owned_state (told_part fold) c.args._state.now) lefts rights) stands lefts rights
    (c.in_err-rows.ensures.large (let is = p.1 in let gives = p.2 in cc))

pub returns-clause-ok : goal.returns-clause-ok
returns-clause-ok c = λ lefts rights stands.
    let fold = c.args.self in
    rows-given (stepped (told_part fold) c.args._window (owned_state (told_part fold) c.args._state.now) lefts rights) fold.told.items (flat_map (told_of fold.kind) (owned (told_part fold) lefts)) c.in_ok-rows.rows c.new.result (told-step fold.kind fold.telling fold.share.n fold.share.i c.args._window (owned_state (told_part fold) c.args._state.now) lefts rights) stands c.new.ensures c.in_ok-rows.ensures.ok
