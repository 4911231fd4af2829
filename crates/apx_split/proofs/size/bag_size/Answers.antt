use Rattle.std.proofs.Common.{◌≡◌, ◌+◌, length, arith, ap}
use Rattle.apx_tuple.specs.Size.{size_by}
use Rattle.apx_tuple.specs.Tuple.{tuple_key}
use Rattle.apx_tuple.proofs.Sizes.{size_by-more, size_by-take-le}
use Rattle.apx_split.proofs.size.bag_size.Goals as goal

pub overflow_add-size-in-loop-tuple : goal.overflow_add-size-in-loop-tuple
overflow_add-size-in-loop-tuple c =
    let tuples = c.tuples-tuple-items.result.now in
    let more = size_by-more tuple_key tuples c.loop-tuple.tuple-index c.tuple-item.result (omega arith) in
    let item = ap (λ t. length (tuple_key t)) c.tuple-item.is in
    let bytes = ap length c.bytes.ensures.bytes in
    let all : size_by tuple_key tuples ≡ size_by tuple_key c.args.bag.now = ap (size_by tuple_key) c.tuples-tuple-items.ensures.tuples in
    record { fits = omega (arith, more, item, bytes, all, c.tuples-tuple-items.ensures.bag.small, size_by-take-le tuple_key tuples (c.loop-tuple.tuple-index + 1)) }

pub loop-tuple-preserved : goal.loop-tuple-preserved
loop-tuple-preserved c =
    let more = size_by-more tuple_key c.tuples-tuple-items.result.now c.loop-tuple.tuple-index c.tuple-item.result (omega arith) in
    let item = ap (λ t. length (tuple_key t)) c.tuple-item.is in
    let bytes = ap length c.bytes.ensures.bytes in
    omega (arith, more, item, bytes)
