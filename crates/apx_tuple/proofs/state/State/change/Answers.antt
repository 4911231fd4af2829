use Rattle.std.proofs.Common.{length, arith, ap, ◌∙◌, Some, refl, w64, to_z, of_z}
use Rattle.apx_tuple.specs.Size.{size_by}
use Rattle.apx_tuple.specs.State.{pair_key}
use Rattle.apx_tuple.proofs.Sizes.{with_entry-written, size_by-with_entry-old, size_by-put-new}
use Rattle.apx_tuple.proofs.state.State.change.Goals as goal

pub invariant_of-self : goal.invariant_of-self
invariant_of-self g c =
    let v = to_z w64 (of_z w64 c.rule-after.result) in
    let es = c.self.inside.entries.entries in
    let ascends = c.self.invariant.1.ascends in
    let written = with_entry-written es c.args.key.now v (Some c.in-Some.kept.now) ascends c.in-Some.ensures.value refl in
    let now = ap (size_by pair_key) ((c.get_mut.follows.holds v).0 ∙ written) in
    let same = size_by-with_entry-old es c.args.key.now v (Some c.in-Some.kept.now) ascends c.in-Some.ensures.value refl in
    (omega (arith, now, same, c.self.invariant.0), record { ascends = (c.get_mut.follows.holds v).4; small = omega (arith, now, same, c.self.invariant.1.small) })

pub returns-in-Some-clause-ok : goal.returns-in-Some-clause-ok
returns-in-Some-clause-ok g c =
    let v = to_z w64 (of_z w64 c.rule-after.result) in
    let es = c.self.inside.entries.entries in
    let written = with_entry-written es c.args.key.now v (Some c.in-Some.kept.now) c.self.invariant.1.ascends c.in-Some.ensures.value refl in
    rw (← c.self.view_is) ((c.get_mut.follows.holds v).0 ∙ written)

pub returns-in-Some-clause-small : goal.returns-in-Some-clause-small
returns-in-Some-clause-small g c =
    let v = to_z w64 (of_z w64 c.rule-after.result) in
    let same = size_by-with_entry-old c.self.inside.entries.entries c.args.key.now v (Some c.in-Some.kept.now) c.self.invariant.1.ascends c.in-Some.ensures.value refl in
    rw (← c.self.view_is) (omega (arith, same, c.self.invariant.1.small))

pub invariant_of-self-3 : goal.invariant_of-self-3
invariant_of-self-3 g c =
    let new = size_by-put-new c.self.inside.entries.entries c.get_mut.follows.lender-at-none.entries c.insert.new.self.entries c.args.key.now c.in_ok-own.own
    (to_z w64 (of_z w64 c.rule-after-2.result)) c.self.inside.size (length c.bytes.result.now) c.self.invariant.1.ascends (ap (λ m. m.entries) c.get_mut.follows.holds-at-none) c.in_ok-own.ensures
    c.in_default.ensures.value c.in_ok-insert.ensures.entries c.self.invariant.0 (ap length c.bytes.ensures.bytes) c.if-outgrows.ensures.small in
    (new.0, record { ascends = c.in_ok-insert.ensures.ordered; small = new.1 })
