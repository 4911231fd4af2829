use Rattle.std.proofs.Common.{◌≤◌, ap, arith}
use Rattle.apx_tuple.specs.Size.{size_by}
use Rattle.apx_tuple.specs.Tuple.{tuple_key}
use Rattle.apx_statebytes.proofs.decoding.bag_of.Goals as goal

pub unreachable-requires : goal.unreachable-requires
unreachable-requires c =
    let large : 4294967232 ≤ size_by tuple_key c.in_ok-tuples_of.field-0.items = c.in-Err-Large.ensures.large.1 in
    absurd (omega (arith, large, c.requires.small, ap (size_by tuple_key) c.in_ok-tuples_of.ensures))
