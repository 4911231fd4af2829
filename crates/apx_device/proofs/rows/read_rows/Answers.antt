use Rattle.std.proofs.Common.{◌≡◌, drop, sym, ◌∙◌, arith, rules}
use Rattle.apx_device.specs.Rows.{rows_in}
use Rattle.apx_device.proofs.Spelled.{ahead-next, ahead-stop}
use Rattle.apx_device.proofs.rows.read_rows.Goals as goal

pub returns-in_default : goal.returns-in_default
returns-in_default c =
    sym (ahead-stop c.loop-done.rows.items c.args.count c.loop-done.done c.loop-done.rest.now c.in_ok-row.field-0 (rows_in c.args.count c.args.bytes.now) (omega arith) c.loop-done.invariant c.in_default.is c.in_ok-row.ensures.row)

pub loop-done-preserved : goal.loop-done-preserved
loop-done-preserved c =
    let after : c.split_at.result.1.now ≡ drop c.in-Some.len c.loop-done.rest.now = search rules in
    ahead-next c.loop-done.rows.items c.push.new.self.items c.in-Some.row c.in-Some.len c.args.count c.loop-done.done c.loop-done.rest.now c.split_at.result.1.now (rows_in c.args.count c.args.bytes.now) (omega arith) c.loop-done.invariant (sym c.in-Some.is ∙ c.in_ok-row.ensures.row) c.in_ok-push.ensures.items after
