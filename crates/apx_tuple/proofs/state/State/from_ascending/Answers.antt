use Rattle.std.proofs.Common.{◌≡◌, ◌∙◌, sym, ap, arith}
use Rattle.apx_tuple.specs.Size.{size_by}
use Rattle.apx_tuple.specs.State.{pair_key}
use Rattle.apx_tuple.proofs.Ascending.{collected}
use Rattle.apx_tuple.proofs.state.State.from_ascending.Goals as goal

pub invariant_of-result : goal.invariant_of-result
invariant_of-result c =
    let same : c.in_ok-collected.field-0.entries ≡ c.args.pairs.items = collected c.args.pairs.items c.in_ok-collected.field-0 c.requires c.in_ok-collected.ensures in
    let size = ap (size_by pair_key) (c.as_slice.ensures.value ∙ sym same) in (
      c.in-Some.ensures.size ∙ size,
      record {
        ascends = c.in_ok-collected.ensures.1;
        small = omega (arith, size, c.in-Some.ensures.small);
      },
    )

pub returns-clause-ok : goal.returns-clause-ok
returns-clause-ok c = collected c.args.pairs.items c.in_ok-collected.field-0 c.requires c.in_ok-collected.ensures
