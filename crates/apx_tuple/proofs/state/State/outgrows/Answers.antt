use Rattle.std.proofs.Common.{length, arith, ap, Some, None, refl}
use Rattle.apx_tuple.proofs.Sizes.{size_by-with_entry-le, size_by-with_entry-old, size_by-with_entry-new}
use Rattle.apx_tuple.proofs.state.State.outgrows.Goals as goal

pub returns-then-self-more-lt-LARGE-clause-small : goal.returns-then-self-more-lt-LARGE-clause-small
returns-then-self-more-lt-LARGE-clause-small c = λ value.
    let bound = size_by-with_entry-le c.self.inside.entries.entries c.args.key.now value c.self.invariant.1.ascends in
    rw (← c.self.view_is) (omega (arith, bound.1, ap length c.bytes.ensures.bytes, c.self.invariant.0))

pub returns-in-Some-clause-small : goal.returns-in-Some-clause-small
returns-in-Some-clause-small c = λ value.
    let same = size_by-with_entry-old c.self.inside.entries.entries c.args.key.now value (Some c.in-Some.field-0.now) c.self.invariant.1.ascends c.in-Some.ensures.value refl in
    rw (← c.self.view_is) (omega (arith, same, c.self.invariant.1.small))

pub returns-in-None-clause-large : goal.returns-in-None-clause-large
returns-in-None-clause-large c = λ value.
    let more = size_by-with_entry-new c.self.inside.entries.entries c.args.key.now value None c.self.invariant.1.ascends c.in-None.ensures.value refl in
    rw (← c.self.view_is) (omega (arith, more, ap length c.bytes.ensures.bytes, c.self.invariant.0))
