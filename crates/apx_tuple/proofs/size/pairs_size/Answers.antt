use Rattle.std.proofs.Common.{◌+◌, length, arith, ap}
use Rattle.apx_tuple.specs.State.{pair_key}
use Rattle.apx_tuple.proofs.Sizes.{size_by-more, size_by-take-le}
use Rattle.apx_tuple.proofs.size.pairs_size.Goals as goal

pub returns-then-size-ge-LARGE-clause-large : goal.returns-then-size-ge-LARGE-clause-large
returns-then-size-ge-LARGE-clause-large c =
    let more = size_by-more pair_key c.args.pairs.now c.loop-pair.pair-index c.pair-item.result (omega arith) in
    let item = ap (λ p. length (pair_key p)) c.pair-item.is in
    let bytes = ap length c.bytes.ensures.bytes in
    omega (arith, more, item, bytes, size_by-take-le pair_key c.args.pairs.now (c.loop-pair.pair-index + 1))

pub loop-pair-preserved : goal.loop-pair-preserved
loop-pair-preserved c =
    let more = size_by-more pair_key c.args.pairs.now c.loop-pair.pair-index c.pair-item.result (omega arith) in
    let item = ap (λ p. length (pair_key p)) c.pair-item.is in
    let bytes = ap length c.bytes.ensures.bytes in
    (omega (arith, more, item, bytes), omega arith)
