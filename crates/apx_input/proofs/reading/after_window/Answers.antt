use Rattle.std.proofs.Common.{◌≡◌, ◌≢◌, ◌+◌, ◌*◌, ℕ, Option, arith, ap, sym, ◌∙◌}
use Rattle.std.proofs.lemmas.Result.{err_from_is_err_and}
use Rattle.apx_pass.specs.Groups.{Refused, first_refused_from}
use Rattle.apx_pass.specs.Lines.{lines}
use Rattle.apx_input.proofs.Ends.{end_of_end}
use Rattle.apx_input.proofs.Reporting.{reports_first, reports_same, next_refused, none_left, dropped_all, dropped_more}
use Rattle.apx_input.proofs.reading.after_window.Goals as goal

pub returns-in_err-judge-in-Some-clause-refused : goal.returns-in_err-judge-in-Some-clause-refused
returns-in_err-judge-in-Some-clause-refused c =
    let few : c.args.first + c.from.result ≢ 20000 * c.args.per_window + 1 = λ e. omega (arith, e, c.from.ensures, c.requires) in
    let told = c.in_err-judge-in-Some.ensures c.args.per_window few in
    let here = reports_first c.args.kind c.args.per_window _ _ (lines c.loop-done.rest.now) _ c.in-Some.ensures.lines c.in_err-judge-in-Some.field-0.0 told in
    let p = err_from_is_err_and c.from_residual.result c.from_residual.ensures.1 in
    let at : ℕ → Option Refused = λ n. first_refused_from c.args.kind c.args.per_window (c.args.first + n) (lines c.loop-done.rest.now) in
    rw (p.1, p.2) (reports_same c.in_err-judge-in-Some.field-0.0 c.args.kind c.args.per_window _ _ _ _ (ap at c.from.ensures ∙ c.loop-done.invariant.refused) here)

pub returns-in-None-clause-lines : goal.returns-in-None-clause-lines
returns-in-None-clause-lines c = dropped_all _ _ c.loop-done.done c.args.per_window c.loop-done.invariant.behind c.in-None.ensures.lines (omega arith)

pub returns-in-None-clause-same : goal.returns-in-None-clause-same
returns-in-None-clause-same c = none_left c.args.kind c.args.per_window _ _ _ c.in-None.ensures.lines ∙ c.loop-done.invariant.refused

pub loop-done-preserved : goal.loop-done-preserved
loop-done-preserved c =
    let few : c.args.first + c.from.result ≢ 20000 * c.args.per_window + 1 = λ e. omega (arith, e, c.from.ensures, c.requires) in
    let told = c.in_ok-judge-in-Some.ensures c.args.per_window few in
    let next = next_refused c.args.kind c.args.per_window _ _ (lines c.loop-done.rest.now) _ c.in-Some.ensures.lines told in
    let at : ℕ → Option Refused = λ n. first_refused_from c.args.kind c.args.per_window (c.args.first + n) (lines c.loop-done.rest.now) in
    let behind : ℕ → Option Refused = λ n. first_refused_from c.args.kind c.args.per_window n (lines c.in-Some.behind.now) in
    let number : c.args.first + (c.loop-done.done + 1) ≡ c.args.first + c.from.result + 1 = omega (arith, c.from.ensures) in
    record {
      rest = end_of_end c.args.text.now c.loop-done.rest.now c.in-Some.behind.now c.loop-done.invariant.rest c.in-Some.ensures.rest;
      behind = dropped_more _ _ _ _ c.loop-done.done c.loop-done.invariant.behind c.in-Some.ensures.lines;
      refused = ap behind number ∙ sym next ∙ ap at c.from.ensures ∙ c.loop-done.invariant.refused;
    }
