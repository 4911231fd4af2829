use Rattle.std.proofs.Common.{◌+◌, length, arith, ap}
use Rattle.apx_tuple.specs.Tuple.{tuple_key}
use Rattle.apx_tuple.proofs.Sizes.{size_by-more, size_by-take-le}
use Rattle.apx_tuple.proofs.size.tuples_size.Goals as goal

pub returns-then-size-ge-LARGE-clause-large : goal.returns-then-size-ge-LARGE-clause-large
returns-then-size-ge-LARGE-clause-large c =
    let more = size_by-more tuple_key c.args.tuples.now c.loop-tuple.tuple-index c.tuple-item.result (omega arith) in
    let item = ap (λ t. length (tuple_key t)) c.tuple-item.is in
    let bytes = ap length c.bytes.ensures.bytes in
    omega (arith, more, item, bytes, size_by-take-le tuple_key c.args.tuples.now (c.loop-tuple.tuple-index + 1))

pub loop-tuple-preserved : goal.loop-tuple-preserved
loop-tuple-preserved c =
    let more = size_by-more tuple_key c.args.tuples.now c.loop-tuple.tuple-index c.tuple-item.result (omega arith) in
    let item = ap (λ t. length (tuple_key t)) c.tuple-item.is in
    let bytes = ap length c.bytes.ensures.bytes in
    (omega (arith, more, item, bytes), omega arith)
