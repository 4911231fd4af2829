use Rattle.std.proofs.Common.{◌⊎◌, [], inl, inr}
use Rattle.std.proofs.lemmas.Result.{err_from_is_err_and}
use Rattle.apx_mean.proofs.Gathering.{only-left}
use Rattle.apx_mean.proofs.gather.folded.Goals as goal

pub returns-in_err-take_all-clause-large : goal.returns-in_err-take_all-clause-large
returns-in_err-take_all-clause-large c = λ refused.
    let p = err_from_is_err_and c.from_residual.result c.from_residual.ensures.1 in
    only-left c.args.lefts.items c.args.rights.items (c.in_err-take_all.ensures.large (let is = p.1 in let gives = p.2 in cc) [] [] c.of-fold.ensures.stands)

pub returns-in_err-take_all-2-clause-large : goal.returns-in_err-take_all-2-clause-large
returns-in_err-take_all-2-clause-large c = λ refused.
    let p = err_from_is_err_and c.from_residual-in_err-take_all-2.result c.from_residual-in_err-take_all-2.ensures.1 in
    c.in_err-take_all-2.ensures.large (let is = p.1 in let gives = p.2 in cc) c.args.lefts.items [] (c.in_ok-take_all.ensures.taken [] [] c.of-fold.ensures.stands)

pub returns-clause-stands : goal.returns-clause-stands
returns-clause-stands c = c.in_ok-take_all-2.ensures.taken c.args.lefts.items [] (c.in_ok-take_all.ensures.taken [] [] c.of-fold.ensures.stands)
