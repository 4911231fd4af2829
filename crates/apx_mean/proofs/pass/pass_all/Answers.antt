use Rattle.std.proofs.Common.{◌<◌, length, inl, refl, arith, ◌∙◌}
use Rattle.std.proofs.lemmas.Result.{err_from_is_err_and}
use Rattle.apx_mean.specs.Passing.{dataflow_of}
use Rattle.apx_mean.proofs.Turn.{rows-large}
use Rattle.apx_mean.proofs.pass.pass_all.Goals as goal

pub returns-in_err-rows-clause-large : goal.returns-in_err-rows-clause-large
returns-in_err-rows-clause-large c = λ refused.
    let flow = dataflow_of c.args.dag.now c.args.inputs.now in
    let p = err_from_is_err_and c.from_residual-in_err-rows.result c.from_residual-in_err-rows.ensures.1 in
    let there : c.args.sink < length c.in_ok-progress.all.items = omega (arith, c.in_ok-progress.ensures.long, c.requires.sink) in
    rows-large flow c.args.order.now c.requires.order c.args.passed c.args.sink c.requires.within c.requires.sink c.taken.result
    (c.taken.ensures ∙ c.in_ok-progress.ensures.rows c.args.sink there (inl refl))
    (c.in_err-rows.ensures.large (let is = p.1 in let gives = p.2 in cc))

pub returns-clause-rows : goal.returns-clause-rows
returns-clause-rows c =
    let there : c.args.sink < length c.in_ok-progress.all.items = omega (arith, c.in_ok-progress.ensures.long, c.requires.sink) in
    c.in_ok-rows.ensures.ok ∙ c.taken.ensures ∙ c.in_ok-progress.ensures.rows c.args.sink there (inl refl)
