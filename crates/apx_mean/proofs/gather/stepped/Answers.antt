use Rattle.std.proofs.Common.{◌≡◌, ap, ◌∙◌}
use Rattle.std.proofs.lemmas.Result.{err_from_is_err_and}
use Rattle.apx_rules.specs.Step.{Stepped, step}
use Rattle.apx_tuple.specs.Tuple.{bag_of}
use Rattle.apx_fold.specs.Folds.{fold_part}
use Rattle.apx_fold.specs.Folding as fold
use Rattle.apx_mean.proofs.Gathering.{step-of-one, large-of-one, ports-of-one}
use Rattle.apx_mean.proofs.gather.stepped.Goals as goal

pub returns-in_err-fold-clause-large : goal.returns-in_err-fold-clause-large
returns-in_err-fold-clause-large c = λ refused.
    let p = err_from_is_err_and c.from_residual.result c.from_residual.ensures.1 in
    ports-of-one (step c.args.kind.now c.args.window c.args.state (bag_of c.args.lefts.items) (bag_of c.args.rights.items)) c.args.lefts.items c.args.rights.items
    (c.in_err-fold.ensures.large (let is = p.1 in let gives = p.2 in cc))

pub returns-in_err-state-clause-large : goal.returns-in_err-state-clause-large
returns-in_err-state-clause-large c = λ refused.
    let p = err_from_is_err_and c.from_residual-in_err-state.result c.from_residual-in_err-state.ensures.1 in
    large-of-one (fold.stepped (fold_part c.in_ok-fold.fold) c.args.window c.args.state c.args.lefts.items c.args.rights.items) (step c.args.kind.now c.args.window c.args.state (bag_of c.args.lefts.items) (bag_of c.args.rights.items)) c.args.lefts.items c.args.rights.items
    (step-of-one (fold_part c.in_ok-fold.fold) c.args.kind.now c.args.window c.args.state c.args.lefts.items c.args.rights.items c.in_ok-fold.ensures.part)
    (c.in_err-state.ensures.large (let is = p.1 in let gives = p.2 in cc) c.args.lefts.items c.args.rights.items c.in_ok-fold.ensures.stands)

pub returns-clause-ok : goal.returns-clause-ok
returns-clause-ok c =
    let given = c.in_ok-state.ensures.ok c.args.lefts.items c.args.rights.items c.in_ok-fold.ensures.stands in
    let same = step-of-one (fold_part c.in_ok-fold.fold) c.args.kind.now c.args.window c.args.state c.args.lefts.items c.args.rights.items c.in_ok-fold.ensures.part in (
      λ j. record { state = (given.0 ∙ ap (λ (s : Stepped). s.state) same) j; left = c.new.ensures j; right = c.new-2.ensures j },
      c.of.ensures ∙ given.1 ∙ ap (λ (s : Stepped). s.rows) same,
    )
