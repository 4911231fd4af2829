use Rattle.std.proofs.Common.{inr, sym, ◌∙◌}
use Rattle.std.proofs.lemmas.Result.{err_from_is_err_and}
use Rattle.apx_step.proofs.Closing.{walk-large, end-large, end-ok, open-large, open-ok}
use Rattle.apx_step.proofs.steps.keyed_step.Goals as goal

pub returns-in_err-kept-clause-large : goal.returns-in_err-kept-clause-large
returns-in_err-kept-clause-large c = λ h.
    let p = err_from_is_err_and c.from_residual.result c.from_residual.ensures.1 in
    walk-large _ _ _ _ _ _ c.start_of-start.ensures.state.ascends c.start_of-start.ensures.start (c.in_err-kept.ensures.large (let is = p.1 in let gives = p.2 in cc))

pub returns-in_err-rows-clause-large : goal.returns-in_err-rows-clause-large
returns-in_err-rows-clause-large c = λ h.
    let p = err_from_is_err_and c.from_residual-in_err-rows.result c.from_residual-in_err-rows.ensures.1 in
    inr (end-large _ _ _ _ _ _ _ _ c.start_of-start.ensures.state.ascends c.start_of-start.ensures.start (sym c.closes.ensures ∙ c.if-closes.true) c.in_ok-kept.ensures.state c.in_ok-all_kept.ensures (c.in_err-rows.ensures.large (let is = p.1 in let gives = p.2 in cc)))

pub returns-then-closes-clause-ok : goal.returns-then-closes-clause-ok
returns-then-closes-clause-ok c =
    end-ok _ _ _ _ _ _ _ _ c.start_of-start.ensures.state.ascends c.start_of-start.ensures.start _ _ (sym c.closes.ensures ∙ c.if-closes.true) c.in_ok-kept.ensures.state c.in_ok-all_kept.ensures c.new.ensures c.in_ok-rows.ensures.ok

pub returns-in_err-of-clause-large : goal.returns-in_err-of-clause-large
returns-in_err-of-clause-large c = λ h.
    let p = err_from_is_err_and c.from_residual-in_err-of.result c.from_residual-in_err-of.ensures.1 in
    inr (open-large _ _ _ _ c.in_ok-kept.kept _ _ _ c.start_of-start.ensures.state.ascends c.start_of-start.ensures.start (sym c.closes.ensures ∙ c.if-closes.false) c.in_ok-kept.ensures.emitted (c.in_err-of.ensures.large (let is = p.1 in let gives = p.2 in cc)))

pub returns-clause-ok : goal.returns-clause-ok
returns-clause-ok c = open-ok _ _ _ _ _ _ _ _ c.start_of-start.ensures.state.ascends c.start_of-start.ensures.start _ (sym c.closes.ensures ∙ c.if-closes.false) (c.kept.view_is ∙ c.in_ok-kept.ensures.state) c.in_ok-kept.ensures.emitted c.in_ok-of.ensures.ok
