use Rattle.std.proofs.Common.{◌≡◌, ◌<◌, ◌≤◌, length, arith, ap, sym, ◌∙◌}
use borrow.Author.Tests.{ltb-false}
use Rattle.apx_pass.specs.Groups.{groups, window_bag, input_of}
use Rattle.apx_pass.proofs.Grouping.{bag_of_none, bag_past}
use Rattle.apx_input.proofs.window.Windows.text_from.Goals as goal

pub returns-in_err-index-clause-none : goal.returns-in_err-index-clause-none
returns-in_err-index-clause-none c =
    let none : c.args.window ≡ 0 = omega (arith, c.in_err-index.ensures) in
    rw c.from_residual.ensures (ap (window_bag c.args.self.now) none ∙ bag_of_none c.args.self.now)

pub returns-in_err-start-clause-none : goal.returns-in_err-start-clause-none
returns-in_err-start-clause-none c =
    let input = input_of c.self.inside.kind c.self.inside.per_window c.self.inside.bytes.items in
    let past : length c.deref.result.now ≤ c.in_ok-index.index = ltb-false _ _ (sym c.in_err-start.ensures.lookup.0) in
    let far : groups input < c.args.window = omega (arith, past, ap length c.deref.ensures.value, c.self.invariant.count, c.in_ok-index.ensures) in
    rw c.from_residual-in_err-start.ensures (rw (← c.self.view_is) (bag_past input c.args.window c.self.invariant.input.low far))
