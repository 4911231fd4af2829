use Rattle.std.proofs.Common.{[], take}
use Rattle.std.proofs.lemmas.Result.{err_from_is_err_and}
use Rattle.apx_order.specs.Sorted.{sorted}
use Rattle.apx_rules.specs.Step.{rank_order}
use Rattle.apx_fold.specs.Folding.{owned, owned_state, stepped}
use Rattle.apx_fold.specs.Folds.{best_part}
use Rattle.apx_fold.proofs.Bests.{best-step}
use Rattle.apx_fold.proofs.Ends.{rows-given, rows-too-large}
use Rattle.apx_fold.proofs.best.BestFolding.end_by_value.Goals as goal

pub returns-in_err-rows-clause-large : goal.returns-in_err-rows-clause-large
returns-in_err-rows-clause-large c = λ h lefts rights stands.
    let fold = c.args.self in
    let p = err_from_is_err_and c.from_residual.result c.from_residual.ensures.1 in
    rows-too-large (stepped (best_part fold) c.args._window c.args._state lefts rights) fold.first.items (take fold.k (sorted rank_order (owned (best_part fold) lefts))) [] [] (best-step fold.k fold.share.n fold.share.i c.args._window c.args._state lefts rights) stands lefts rights
    (c.in_err-rows.ensures.large (let is = p.1 in let gives = p.2 in cc))

pub returns-clause-ok : goal.returns-clause-ok
returns-clause-ok c = λ lefts rights stands.
    let fold = c.args.self in
    rows-given (stepped (best_part fold) c.args._window c.args._state lefts rights) fold.first.items (take fold.k (sorted rank_order (owned (best_part fold) lefts))) c.in_ok-rows.rows c.new.result (best-step fold.k fold.share.n fold.share.i c.args._window c.args._state lefts rights) stands c.new.ensures c.in_ok-rows.ensures.ok

pub returns-clause-part : goal.returns-clause-part
returns-clause-part c = λ lefts rights stands all.
    let fold = c.args.self in
    let part = owned_state (best_part fold) c.args._state in
    rows-given (stepped (best_part fold) c.args._window part lefts rights) fold.first.items (take fold.k (sorted rank_order (owned (best_part fold) lefts))) c.in_ok-rows.rows c.new.result (best-step fold.k fold.share.n fold.share.i c.args._window part lefts rights) stands c.new.ensures c.in_ok-rows.ensures.ok
