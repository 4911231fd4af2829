use Rattle.std.proofs.Common.{◌≡◌, inr, to_z, of_z, w64, rules}
use mir.Val.{SFits}
use Rattle.std.proofs.lemmas.Int.{to_z-of_z}
use Rattle.std.proofs.lemmas.Result.{err_from_is_err_and}
use Rattle.apx_step.proofs.EachTuple.{step-keep, step-scale}
use Rattle.apx_step.proofs.steps.step_by_value.Goals as goal

pub returns-in_err-keep-in-Keep-clause-large : goal.returns-in_err-keep-in-Keep-clause-large
returns-in_err-keep-in-Keep-clause-large c =
    let fits_min : SFits w64 c.in-Keep.min = search rules in
    let fits_max : SFits w64 c.in-Keep.max = search rules in
    let min : to_z w64 (of_z w64 c.in-Keep.min) ≡ c.in-Keep.min = to_z-of_z w64 c.in-Keep.min fits_min in
    let max : to_z w64 (of_z w64 c.in-Keep.max) ≡ c.in-Keep.max = to_z-of_z w64 c.in-Keep.max fits_max in
    let p = err_from_is_err_and c.from_residual.result c.from_residual.ensures.1 in
    rw (step-keep c.args.kind.now c.in-Keep.min c.in-Keep.max c.args.window c.args.state c.args.left c.args.right c.in-Keep.is c.in_err-keep-in-Keep.ensures.ascends)
    (λ h. inr ((simp (min, max) at c.in_err-keep-in-Keep.ensures.large) (let is = p.1 in let gives = p.2 in cc)))

pub returns-in_ok-keep-in-Keep-clause-ok : goal.returns-in_ok-keep-in-Keep-clause-ok
returns-in_ok-keep-in-Keep-clause-ok c =
    let fits_min : SFits w64 c.in-Keep.min = search rules in
    let fits_max : SFits w64 c.in-Keep.max = search rules in
    let min : to_z w64 (of_z w64 c.in-Keep.min) ≡ c.in-Keep.min = to_z-of_z w64 c.in-Keep.min fits_min in
    let max : to_z w64 (of_z w64 c.in-Keep.max) ≡ c.in-Keep.max = to_z-of_z w64 c.in-Keep.max fits_max in
    rw (step-keep c.args.kind.now c.in-Keep.min c.in-Keep.max c.args.window c.args.state c.args.left c.args.right c.in-Keep.is c.in_ok-keep-in-Keep.ensures.ascends)
    (c.new.ensures, simp (min, max) at c.in_ok-keep-in-Keep.ensures.ok)

pub returns-in_err-scale-in-Scale-clause-large : goal.returns-in_err-scale-in-Scale-clause-large
returns-in_err-scale-in-Scale-clause-large c =
    let fits : SFits w64 c.in-Scale.factor = search rules in
    let same : to_z w64 (of_z w64 c.in-Scale.factor) ≡ c.in-Scale.factor = to_z-of_z w64 c.in-Scale.factor fits in
    let p = err_from_is_err_and c.from_residual-in_err-scale-in-Scale.result c.from_residual-in_err-scale-in-Scale.ensures.1 in
    rw (step-scale c.args.kind.now c.in-Scale.factor c.args.window c.args.state c.args.left c.args.right c.in-Scale.is)
    (λ h. inr ((simp same at c.in_err-scale-in-Scale.ensures.large) (let is = p.1 in let gives = p.2 in cc)))

pub returns-in_ok-scale-in-Scale-clause-ok : goal.returns-in_ok-scale-in-Scale-clause-ok
returns-in_ok-scale-in-Scale-clause-ok c =
    let fits : SFits w64 c.in-Scale.factor = search rules in
    let same : to_z w64 (of_z w64 c.in-Scale.factor) ≡ c.in-Scale.factor = to_z-of_z w64 c.in-Scale.factor fits in
    rw (step-scale c.args.kind.now c.in-Scale.factor c.args.window c.args.state c.args.left c.args.right c.in-Scale.is)
    (c.new-in-Scale.ensures, simp same at c.in_ok-scale-in-Scale.ensures.ok)
