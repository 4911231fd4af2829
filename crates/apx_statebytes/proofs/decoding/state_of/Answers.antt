use Rattle.std.proofs.Common.{◌≤◌, ap, arith, Err}
use Rattle.apx_tuple.specs.Size.{size_by}
use Rattle.apx_tuple.specs.State.{pair_key}
use Rattle.apx_statebytes.proofs.decoding.state_of.Goals as goal

pub unreachable-requires : goal.unreachable-requires
unreachable-requires c =
    let large : 4294967232 ≤ size_by pair_key c.args.rows.items = c.in-Err-Large.ensures.large (ap Err c.in-Err-Large.field-0-is) in
    absurd (omega (arith, large, c.requires.small))
