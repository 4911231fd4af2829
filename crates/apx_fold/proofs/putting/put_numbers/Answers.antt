use Rattle.std.proofs.Common.{◌≡◌, ◌++◌, ℤ, Option, rules}
use Rattle.std.proofs.lemmas.Result.{err_from_is_err_and}
use Rattle.apx_tuple.specs.State.{Pair, value_at, with_entry}
use Rattle.apx_fold.specs.Putting.{entry_after, told_of_number}
use Rattle.apx_fold.proofs.Puts.{putting-start, putting-next, putting-large, putting-end}
use Rattle.apx_fold.proofs.putting.put_numbers.Goals as goal

pub loop-key-init : goal.loop-key-init
loop-key-init c =
    putting-start c.args.kind.now c.args.state c.args.numbers.now c.begun-kept.result c.new-rows.result.items _ c.pairs-key-items.ensures.state.ascends c.begun-kept.ensures.state.ascends
    c.begun-kept.ensures.same c.new-rows.ensures.items (search rules)

pub loop-key-preserved : goal.loop-key-preserved
loop-key-preserved c =
    let pair : Pair = (c.in-Some.key.now, c.in-Some.number) in
    let old : Option ℤ = value_at c.loop-key.kept c.in-Some.key.now in
    let kept : c.put_number.new.state ≡ with_entry c.loop-key.kept c.in-Some.key.now (entry_after c.args.kind.now old c.in-Some.number) = search (rules, c.in_ok-put_number.ensures.state) in
    let rows : c.put_number.new.rows.items ≡ c.loop-key.rows.items ++ told_of_number c.args.kind.now c.in-Some.key.now old c.in-Some.number = search (rules, c.in_ok-put_number.ensures.rows) in
    putting-next c.args.kind.now c.requires c.args.state c.args.numbers.now c.loop-key.kept c.loop-key.rows.items pair c.loop-key.key-iterator c.next.new.self c.put_number.new.state c.put_number.new.rows.items
    c.in-Some.ensures.steps c.loop-key.invariant kept rows

pub returns-in_err-put_number-clause-large : goal.returns-in_err-put_number-clause-large
returns-in_err-put_number-clause-large c = λ h.
    let pair : Pair = (c.in-Some.key.now, c.in-Some.number) in
    let p = err_from_is_err_and c.from_residual.result c.from_residual.ensures.1 in
    putting-large c.args.kind.now c.requires c.args.state c.args.numbers.now c.loop-key.kept c.loop-key.rows.items pair c.loop-key.key-iterator c.next.new.self
    c.in-Some.ensures.steps c.loop-key.invariant (c.in_err-put_number.ensures.large (let is = p.1 in let gives = p.2 in cc))

pub returns-clause-kept : goal.returns-clause-kept
returns-clause-kept c = (putting-end c.args.kind.now c.requires c.args.state c.args.numbers.now c.loop-key.kept c.loop-key.rows.items c.loop-key.key-iterator c.in-None.ensures.steps.0 c.loop-key.invariant).0

pub returns-clause-rows : goal.returns-clause-rows
returns-clause-rows c = (putting-end c.args.kind.now c.requires c.args.state c.args.numbers.now c.loop-key.kept c.loop-key.rows.items c.loop-key.key-iterator c.in-None.ensures.steps.0 c.loop-key.invariant).1
