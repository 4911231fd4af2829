use Rattle.std.proofs.Common.{◌≡◌, ◌/◌, ◌⊎◌, rules, sym, ap, ◌∙◌}
use Rattle.std.proofs.lemmas.Result.{err_from_is_err_and}
use Rattle.apx_tuple.specs.Size.{IsLarge}
use Rattle.apx_tuple.specs.State.{pair_key}
use Rattle.apx_tuple.specs.Tuple.{tuple_key}
use Rattle.apx_pass.specs.Pass.{Passed}
use Rattle.apx_rules.specs.Step.{Stepped, step}
use Rattle.apx_part.proofs.Grouping.{after_step, gathered-steps, gathered-carries, large-step}
use Rattle.apx_part.proofs.closing.close_any.Goals as goal

pub returns-then-window-app_windows-ne0-clause-ok : goal.returns-then-window-app_windows-ne0-clause-ok
returns-then-window-app_windows-ne0-clause-ok c =
    let e = gathered-carries c.args.kind.now c.args.app_windows c.args.window c.args.state c.args.left c.args.right c.if-window-app_windows-ne0.true in
    (ap (λ (x : Passed). x.progress) (sym e), c.new.ensures ∙ ap (λ (x : Passed). x.rows) (sym e))

pub returns-in_err-state-clause-large : goal.returns-in_err-state-clause-large
returns-in_err-state-clause-large c = λ h.
    let p = err_from_is_err_and c.from_residual.result c.from_residual.ensures.1 in
    let e = gathered-steps c.args.kind.now c.args.app_windows c.args.window c.args.state c.args.left c.args.right c.if-window-app_windows-ne0.false in
    large-step _ _ e (c.in_err-state.ensures.large (let is = p.1 in let gives = p.2 in cc))

pub returns-clause-ok : goal.returns-clause-ok
returns-clause-ok c =
    let e = gathered-steps c.args.kind.now c.args.app_windows c.args.window c.args.state c.args.left c.args.right c.if-window-app_windows-ne0.false in
    ((λ j. record { state = c.in_ok-state.ensures.ok.0 j; left = c.new-2.ensures j; right = c.new-3.ensures j }) ∙ ap (λ (x : Passed). x.progress) (sym e), c.in_ok-state.ensures.ok.1 ∙ ap (λ (x : Passed). x.rows) (sym e))
