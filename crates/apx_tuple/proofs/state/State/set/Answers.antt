use Rattle.std.proofs.Common.{length, arith, ap}
use Rattle.apx_tuple.proofs.Sizes.{size_by-set-old, size_by-set-new, size_by-set-small}
use Rattle.apx_tuple.proofs.state.State.set.Goals as goal

pub invariant_of-self-then-is_none : goal.invariant_of-self-then-is_none
invariant_of-self-then-is_none c =
    let more = size_by-set-new _ _ _ _ _ c.in_ok-insert.ensures.entries c.self.invariant.1.ascends c.in_ok-insert.ensures.old c.if-is_none.ensures in (
      omega (arith, more, ap length c.bytes.ensures.bytes, c.self.invariant.0),
      record { ascends = c.in_ok-insert.ensures.ordered; small = size_by-set-small _ c.self.inside.entries.entries c.args.key _ c.in_ok-insert.ensures.entries (rw (← c.self.view_is) at c.if-outgrows.ensures.small) },
    )

pub invariant_of-self-else-is_none : goal.invariant_of-self-else-is_none
invariant_of-self-else-is_none c =
    let same = size_by-set-old _ _ _ _ _ c.in_ok-insert.ensures.entries c.self.invariant.1.ascends c.in_ok-insert.ensures.old c.if-is_none.ensures in (
      omega (arith, same, c.self.invariant.0),
      record { ascends = c.in_ok-insert.ensures.ordered; small = size_by-set-small _ c.self.inside.entries.entries c.args.key _ c.in_ok-insert.ensures.entries (rw (← c.self.view_is) at c.if-outgrows.ensures.small) },
    )
