use Rattle.std.proofs.Common.{length, arith, ap, sym, ◌∙◌}
use Rattle.apx_tuple.specs.Size.{size_by}
use Rattle.apx_tuple.specs.State.{pair_key}
use Rattle.apx_tuple.proofs.Sizes.{size_by-without_entry}
use Rattle.apx_tuple.proofs.state.State.remove.Goals as goal

pub overflow_sub-self : goal.overflow_sub-self
overflow_sub-self c =
    let gone = size_by-without_entry c.self.inside.entries.entries c.args.key.now _ c.remove.ensures.value (sym c.is_some.ensures ∙ c.if-is_some.true) in
    omega (arith, gone, ap length c.bytes.ensures.bytes, c.self.invariant.0)

pub invariant_of-self : goal.invariant_of-self
invariant_of-self c =
    let gone = size_by-without_entry c.self.inside.entries.entries c.args.key.now _ c.remove.ensures.value (sym c.is_some.ensures ∙ c.if-is_some.true) in
    let left = ap (size_by pair_key) c.remove.ensures.entries in (
      omega (arith, gone, left, ap length c.bytes.ensures.bytes, c.self.invariant.0),
      record { ascends = c.remove.ensures.ordered; small = omega (arith, gone, left, c.self.invariant.1.small) },
    )
