use Rattle.std.proofs.Common.{[], sym, ◌∙◌, ap, refl, Some}
use Rattle.apx_dag.specs.Names.{named_again}
use Rattle.apx_dag.proofs.Repeats.{texts, was_there, was_new, found, goes_on, ended}
use Rattle.apx_dag.proofs.names.first_repeated.Goals as goal

pub returns-then-not-branch : goal.returns-then-not-branch
returns-then-not-branch g c =
    let named = g.T.Named.named in
    let text = c.in_ok-from_slice.ensures.items ∙ c.as_bytes.ensures.value ∙ c.text.ensures ∙ c.name-name.ensures in
    ap (λ n. Some n) c.name-name.ensures ∙ found named c.loop-item.seen.keys c.args.items.now c.loop-item.item-index c.item-item.result c.in_ok-from_slice.field-0 (named_again named [] c.args.items.now) c.loop-item-test.true c.item-item.is text c.loop-item.invariant (was_there _ _ c.in_ok-insert.ensures.added c.if-not-branch.true)

pub loop-item-preserved : goal.loop-item-preserved
loop-item-preserved g c =
    let named = g.T.Named.named in
    let text = c.in_ok-from_slice.ensures.items ∙ c.as_bytes.ensures.value ∙ c.text.ensures ∙ c.name-name.ensures in
    let new = was_new _ _ c.in_ok-insert.ensures.added c.if-not-branch.false in
    goes_on named c.loop-item.seen.keys c.args.items.now c.loop-item.item-index c.item-item.result c.in_ok-from_slice.field-0 (named_again named [] c.args.items.now) c.loop-item-test.true c.item-item.is text c.loop-item.invariant c.insert.new.self.keys new (c.in_ok-insert.ensures.keys ∙ rw new refl)

pub returns : goal.returns
returns g c =
    let named = g.T.Named.named in
    sym (ended named (texts c.loop-item.seen.keys) c.args.items.now c.loop-item.item-index c.loop-item-test.false) ∙ c.loop-item.invariant
