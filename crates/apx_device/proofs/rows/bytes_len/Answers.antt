use Rattle.std.proofs.Common.{◌+◌, length, arith, ap}
use Rattle.apx_tuple.specs.Tuple.{tuple_key}
use Rattle.apx_tuple.proofs.Sizes.{size_by-more, size_by-take-le}
use Rattle.apx_device.proofs.rows.bytes_len.Goals as goal

pub overflow_add-len-in-loop-row : goal.overflow_add-len-in-loop-row
overflow_add-len-in-loop-row c =
    let more = size_by-more tuple_key c.args.rows.now c.loop-row.row-index c.row-item.result (omega arith) in
    let item = ap (λ t. length (tuple_key t)) c.row-item.is in
    let bytes = ap length c.bytes.ensures.bytes in
    omega (arith, more, item, bytes, size_by-take-le tuple_key c.args.rows.now (c.loop-row.row-index + 1))

pub loop-row-preserved : goal.loop-row-preserved
loop-row-preserved c =
    let more = size_by-more tuple_key c.args.rows.now c.loop-row.row-index c.row-item.result (omega arith) in
    let item = ap (λ t. length (tuple_key t)) c.row-item.is in
    let bytes = ap length c.bytes.ensures.bytes in
    omega (arith, more, item, bytes)
