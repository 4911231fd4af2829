use Rattle.std.proofs.Common.{◌≡◌, subst, ◌∙◌}
use Rattle.std.specs.Prelude.{IfOk}
use Rattle.apx_tuple.specs.declared.progress.Progress.{Progress}
use Rattle.apx_part.specs.Made.{made_of, IsMade}
use Rattle.apx_part.proofs.window.work_window.Goals as goal

pub returns-clause-ok : goal.returns-clause-ok
returns-clause-ok c = λ lefts rights l r.
    let same : record { state = c.in_ok-copy.field-0; left = c.in_ok-copy-2.field-0; right = c.in_ok-copy-3.field-0 } ≡ c.args.state.now = λ j. record { state = c.in_ok-copy.ensures j; left = c.in_ok-copy-2.ensures j; right = c.in_ok-copy-3.ensures j } in
    subst (λ (g : Progress). IfOk c.work_window_of.result (λ done. IsMade c.args.job.now c.args.id.op c.args.window (made_of c.args.job.now c.args.id.op c.args.id.part c.args.window g lefts rights) done.state done.rows done.blocks.items)) same (c.work_window_of.ensures.ok lefts rights l r)
