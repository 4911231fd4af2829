use Rattle.std.proofs.Common.{IfOk, subst, ◌∙◌}
use Rattle.std.proofs.lemmas.Result.{err_from_is_err_and}
use Rattle.apx_rules.specs.Step.{Stepped, step}
use Rattle.apx_fold.specs.Folds.{gathered_part}
use Rattle.apx_fold.specs.Folding.{stepped}
use Rattle.apx_fold.proofs.Ends.{AreOf, part-of-all, step-of-owned, left-too-large, right-too-large, step-too-large}
use Rattle.apx_fold.proofs.gathered.GatheredFolding.end_by_value.Goals as goal

pub returns-in_err-left-clause-large : goal.returns-in_err-left-clause-large
returns-in_err-left-clause-large c = λ h lefts rights stands.
    let fold = c.args.self in
    let p = err_from_is_err_and c.from_residual.result c.from_residual.ensures.1 in
    left-too-large (gathered_part fold) (stepped (gathered_part fold) c.args.window c.args.state lefts rights) lefts rights fold.lefts.items stands.0
    (c.in_err-left.ensures.large (let is = p.1 in let gives = p.2 in cc))

pub returns-in_err-right-clause-large : goal.returns-in_err-right-clause-large
returns-in_err-right-clause-large c = λ h lefts rights stands.
    let fold = c.args.self in
    let p = err_from_is_err_and c.from_residual-in_err-right.result c.from_residual-in_err-right.ensures.1 in
    right-too-large (gathered_part fold) (stepped (gathered_part fold) c.args.window c.args.state lefts rights) lefts rights fold.rights.items stands.1
    (c.in_err-right.ensures.large (let is = p.1 in let gives = p.2 in cc))

pub returns-clause-ok : goal.returns-clause-ok
returns-clause-ok c = λ lefts rights stands.
    let fold = c.args.self in
    subst (λ (given : Stepped). IfOk c.step_by_value.result (AreOf given))
    (step-of-owned (gathered_part fold) c.args.window c.args.state lefts rights fold.lefts.items fold.rights.items c.in_ok-left.left c.in_ok-right.right stands.0 stands.1 c.in_ok-left.ensures.ok c.in_ok-right.ensures.ok)
    c.step_by_value.ensures.ok

pub returns-clause-part : goal.returns-clause-part
returns-clause-part c = λ lefts rights stands all.
    let fold = c.args.self in
    subst (λ (given : Stepped). IfOk c.step_by_value.result (AreOf given))
    (step-of-owned (gathered_part fold) c.args.window c.args.state lefts rights fold.lefts.items fold.rights.items c.in_ok-left.left c.in_ok-right.right stands.0 stands.1 c.in_ok-left.ensures.ok c.in_ok-right.ensures.ok
    ∙ part-of-all (gathered_part fold) c.args.window c.args.state lefts rights all)
    c.step_by_value.ensures.ok

pub returns-clause-large : goal.returns-clause-large
returns-clause-large c = λ h lefts rights stands.
    let fold = c.args.self in
    step-too-large (step fold.kind c.args.window c.args.state c.in_ok-left.left c.in_ok-right.right) (stepped (gathered_part fold) c.args.window c.args.state lefts rights) lefts rights
    (step-of-owned (gathered_part fold) c.args.window c.args.state lefts rights fold.lefts.items fold.rights.items c.in_ok-left.left c.in_ok-right.right stands.0 stands.1 c.in_ok-left.ensures.ok c.in_ok-right.ensures.ok)
    (c.step_by_value.ensures.large h)
