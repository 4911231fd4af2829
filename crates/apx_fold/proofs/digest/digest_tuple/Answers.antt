use Rattle.std.proofs.Common.{◌≡◌, ◌++◌, ◌∷◌, [], pos, ap, subst, sym, rules, List, ◌∙◌}
use Rattle.std.proofs.lemmas.Result.{err_from_is_err_and}
use Rattle.apx_tuple.specs.State.{Pair, value_at, with_entry}
use Rattle.apx_fold.specs.Digests.{digest_with, AreDigests}
use Rattle.apx_fold.proofs.Digesting.{digests-more, digests-large}
use Rattle.apx_fold.proofs.digest.digest_tuple.Goals as goal

pub returns-in_err-change-clause-large : goal.returns-in_err-change-clause-large
returns-in_err-change-clause-large c = λ h before are.
    let p = err_from_is_err_and c.from_residual.result c.from_residual.ensures.1 in
    digests-large c.args.kind.now c.args.numbers.now before c.args.tuple.now (pos 0) are
    (c.in_err-change.ensures.large (let is = p.1 in let gives = p.2 in cc) (pos 0))

pub returns-clause-taken : goal.returns-clause-taken
returns-clause-taken c = λ before are.
    let t = c.args.tuple.now in
    let made : c.in_ok-change.field-0.1 ≡ digest_with c.args.kind.now (value_at c.args.numbers.now t.key) t.value = search rules in
    subst (λ (ps : List Pair). AreDigests c.args.kind.now ps (before ++ t ∷ []))
    (sym (c.in_ok-change.ensures.ok ∙ ap (with_entry c.args.numbers.now t.key) made))
    (digests-more c.args.kind.now c.args.numbers.now before t are)
