use Rattle.std.proofs.Common.{◌≡◌, ◌<◌, length, sym, ◌∙◌, rules}
use Rattle.std.proofs.lemmas.Bool.{eqb-true}
use Rattle.apx_list.specs.Messages.{closing}
use Rattle.apx_list.proofs.Checked.{never, some_of, spells_nothing, spells_no_tuples, spells_if}
use Rattle.apx_list.proofs.checking.spells.Goals as goal

pub returns-then-is_empty : goal.returns-then-is_empty
returns-then-is_empty c =
    let none : length c.args.bytes.now ≡ 0 = eqb-true _ 0 (sym c.is_empty.ensures ∙ c.if-is_empty.true) in
    never (spells_nothing c.args.plan.now c.args.marks c.args.bytes.now none)

pub returns-in_default-2 : goal.returns-in_default-2
returns-in_default-2 c =
    never (spells_no_tuples c.args.plan.now c.args.marks c.args.bytes.now c.in-Some.rest.now (rw c.in-Some.is at c.in_ok-rest.ensures) (rw c.in_default-2.is at c.in_ok-ends.ensures.none))

pub returns : goal.returns
returns c =
    let some : 0 < length c.args.bytes.now = some_of c.args.bytes.now (sym c.is_empty.ensures ∙ c.if-is_empty.false) in
    let messages : c.deref.result.now ≡ closing c.args.plan.now c.args.marks.window = search rules in
    spells_if c.are_ends.result c.args.plan.now c.args.marks c.args.bytes.now c.in-Some.rest.now c.in-Some-2.ends.now c.requires.plan c.requires.window some (rw c.in-Some.is at c.in_ok-rest.ensures) (rw c.in-Some-2.is at c.in_ok-ends.ensures.found) (rw messages at c.are_ends.ensures)
