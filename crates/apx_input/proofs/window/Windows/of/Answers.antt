use Rattle.std.proofs.Common.{◌≡◌, ℕ, List, None, Err, ap, subst, ◌∙◌}
use Rattle.std.proofs.lemmas.Result.{err_from_is_err_and}
use Rattle.apx_pass.specs.Groups.{first_refused, input_of}
use Rattle.apx_input.specs.Refusals.{Reports}
use Rattle.apx_input.specs.Starts.{IsKept}
use Rattle.apx_input.proofs.Reporting.{only_refusal, none_and_some}
use Rattle.apx_input.proofs.window.Windows.of.Goals as goal

pub returns-in_err-starts-clause-refused : goal.returns-in_err-starts-clause-refused
unfolding first_refused
returns-in_err-starts-clause-refused c =
    let p = err_from_is_err_and c.from_residual.result c.from_residual.ensures.1 in
    rw (← c.deref.ensures.value, p.1, p.2) c.in_err-starts.ensures.refused

pub returns-in_err-starts-clause-exact : goal.returns-in_err-starts-clause-exact
unfolding first_refused
returns-in_err-starts-clause-exact c = λ refused e.
    let p = err_from_is_err_and c.from_residual.result c.from_residual.ensures.1 in
    let reports : Reports c.in_err-starts.field-0.0 (first_refused (input_of c.args.kind c.args.per_window c.args.bytes.items)) = rw (← c.deref.ensures.value) c.in_err-starts.ensures.refused in
    only_refusal c.from_residual.result c.in_err-starts.field-0.0 refused _ (p.1 ∙ ap Err p.2) reports e

pub invariant_of-result : goal.invariant_of-result
unfolding first_refused
invariant_of-result c =
    let kept : IsKept c.args.kind c.args.per_window c.deref.result.now c.in_ok-starts.starts.items = record {
      input = record { low = c.requires.low; high = c.requires.high; accepted = c.in_ok-starts.ensures.accepted };
      starts_at = c.in_ok-starts.ensures.starts;
      count = c.in_ok-starts.ensures.count;
      few = c.in_ok-starts.ensures.few;
    } in
    subst (λ (bytes : List ℕ). IsKept c.args.kind c.args.per_window bytes c.in_ok-starts.starts.items) c.deref.ensures.value kept

pub returns-clause-accepted : goal.returns-clause-accepted
unfolding first_refused
returns-clause-accepted c = rw (← c.deref.ensures.value) c.in_ok-starts.ensures.accepted

pub returns-clause-exact : goal.returns-clause-exact
unfolding first_refused
returns-clause-exact c = λ refused e.
    let accepted : first_refused (input_of c.args.kind c.args.per_window c.args.bytes.items) ≡ None = rw (← c.deref.ensures.value) c.in_ok-starts.ensures.accepted in
    absurd (none_and_some _ refused accepted e)
