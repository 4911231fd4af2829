use Rattle.std.proofs.Common.{sym, ◌∙◌}
use Rattle.std.proofs.lemmas.Result.{err_from_is_err_and}
use Rattle.apx_fold.proofs.Puts.{putting-open, putting-closed, putting-too-large}
use Rattle.apx_fold.proofs.digest.DigestFolding.end_unsorted.Goals as goal

pub returns-in_err-kept-clause-large : goal.returns-in_err-kept-clause-large
returns-in_err-kept-clause-large c = λ h lefts rights stands.
    let fold = c.args.self in
    let p = err_from_is_err_and c.from_residual.result c.from_residual.ensures.1 in
    putting-too-large fold.kind fold.digesting fold.share.n fold.share.i c.args.window c.args.state fold.numbers lefts rights c.put_numbers.ensures.state.ascends stands
    (c.in_err-kept.ensures.large (let is = p.1 in let gives = p.2 in cc))

pub returns-then-closes-clause-ok : goal.returns-then-closes-clause-ok
returns-then-closes-clause-ok c = λ lefts rights stands.
    let fold = c.args.self in
    putting-closed fold.kind fold.digesting fold.share.n fold.share.i c.args.window c.args.state fold.numbers lefts rights c.put_numbers.ensures.state.ascends stands
    c.in_ok-kept.kept c.new.result c.in_ok-tuples_of.field-0.items (sym c.closes.ensures ∙ c.if-closes.true) c.in_ok-kept.ensures.kept c.in_ok-tuples_of.ensures.tuples c.new.ensures

pub returns-clause-ok : goal.returns-clause-ok
returns-clause-ok c = λ lefts rights stands.
    let fold = c.args.self in
    putting-open fold.kind fold.digesting fold.share.n fold.share.i c.args.window c.args.state fold.numbers lefts rights c.put_numbers.ensures.state.ascends stands
    c.in_ok-kept.kept c.in_ok-kept.rows.items (sym c.closes.ensures ∙ c.if-closes.false) c.in_ok-kept.ensures.kept c.in_ok-kept.ensures.rows
