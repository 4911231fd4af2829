use Rattle.std.proofs.Common.{◌≡◌, ℕ, ◌+◌, ◌-◌, List, Option, Ok, length, ap, subst, ◌∙◌, arith}
use Rattle.std.specs.Option.{option_copied}
use Rattle.std.proofs.lemmas.Result.{err_from_is_err_and}
use Rattle.apx_tuple.specs.State.{Pair}
use Rattle.apx_statebytes.specs.Reading.{Refuses, row_at, rows_at}
use Rattle.apx_statebytes.proofs.Loop.{last_row, with_none, goes_on, stops, is_done}
use Rattle.apx_statebytes.proofs.rows.rows_at.Goals as goal

pub returns-in_err-row : goal.returns-in_err-row
returns-in_err-row c =
    let p = err_from_is_err_and c.from_residual-in_err-row.result c.from_residual-in_err-row.ensures.1 in
    let last : option_copied c.last.result ≡ last_row c.loop.rows.items = c.last.ensures.value ∙ ap last_row c.deref.ensures.value in
    let refused = subst (λ (o : Option Pair). Refuses c.in_err-row.field-0.0 (row_at c.args.each_once c.args.total c.loop.left o c.loop.rest.now)) last c.in_err-row.ensures in
    rw (p.1, p.2) (stops c.in_err-row.field-0.0 c.args.each_once c.args.total c.args.count c.loop.counter c.loop.left c.loop.rows.items c.loop.rest.now _ c.loop-test.true refused c.loop.invariant)

pub loop-init : goal.loop-init
loop-init c =
    let all : c.args.count - 0 ≡ c.args.count = omega arith in
    rw (c.in_ok-rows.ensures.items, all) (with_none _)

pub loop-preserved : goal.loop-preserved
loop-preserved c =
    let last : option_copied c.last.result ≡ last_row c.loop.rows.items = c.last.ensures.value ∙ ap last_row c.deref.ensures.value in
    let row = subst (λ (o : Option Pair). row_at c.args.each_once c.args.total c.loop.left o c.loop.rest.now ≡ Ok (c.in_ok-row.row, c.in_ok-row.behind.now)) last c.in_ok-row.ensures in
    let less : c.saturating_sub-left.result ≡ c.loop.left - (length c.in_ok-row.row.0 + 10) = omega (arith, c.saturating_sub-left.ensures, ap length c.bytes.ensures.bytes) in
    rw (c.in_ok-push.ensures.items, less) (goes_on c.args.each_once c.args.total c.args.count c.loop.counter c.loop.left c.loop.rows.items c.loop.rest.now c.in_ok-row.row c.in_ok-row.behind.now _ c.loop-test.true row c.loop.invariant)

pub returns : goal.returns
returns c = is_done c.args.each_once c.args.total c.args.count c.loop.counter c.loop.left c.loop.rows.items c.loop.rest.now _ c.loop-test.false c.loop.invariant
