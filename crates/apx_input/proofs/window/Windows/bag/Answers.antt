use Rattle.std.proofs.Common.{◌≡◌, ◌-◌, ◌*◌, drop}
use Rattle.apx_pass.specs.Lines.{lines}
use Rattle.apx_input.proofs.Keeping.{short_lines, small_tuples, bag_is}
use Rattle.apx_input.proofs.window.Windows.bag.Goals as goal

pub tuples_of-requires : goal.tuples_of-requires
tuples_of-requires c =
    let text : lines c.in-Some.text.now ≡ drop ((c.args.window - 1) * c.self.inside.per_window) (lines c.self.inside.bytes.items) = rw (← c.self.view_is) at c.in-Some.ensures.text in
    short_lines c.self.inside.kind c.self.inside.per_window c.self.inside.bytes.items c.in-Some.text.now c.args.window c.self.invariant.input text

pub bag_of-requires : goal.bag_of-requires
bag_of-requires c =
    let text : lines c.in-Some.text.now ≡ drop ((c.args.window - 1) * c.self.inside.per_window) (lines c.self.inside.bytes.items) = rw (← c.self.view_is) at c.in-Some.ensures.text in
    small_tuples c.self.inside.kind c.self.inside.per_window c.self.inside.bytes.items c.in-Some.text.now c.args.window c.self.invariant.input text _ c.in_ok-tuples_of-in-Some.ensures

pub returns-in_ok-tuples_of-in-Some-clause-bag : goal.returns-in_ok-tuples_of-in-Some-clause-bag
returns-in_ok-tuples_of-in-Some-clause-bag c =
    let text : lines c.in-Some.text.now ≡ drop ((c.args.window - 1) * c.self.inside.per_window) (lines c.self.inside.bytes.items) = rw (← c.self.view_is) at c.in-Some.ensures.text in
    let bag = bag_is c.self.inside.kind c.self.inside.per_window c.self.inside.bytes.items c.in-Some.text.now c.args.window c.self.invariant.input text _ c.in-Some.ensures.counted c.in_ok-tuples_of-in-Some.ensures in
    rw (← c.self.view_is) (rw (← bag) c.bag_of.ensures)
