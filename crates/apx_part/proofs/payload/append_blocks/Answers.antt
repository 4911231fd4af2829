use Rattle.std.proofs.Common.{refl, arith}
use Rattle.apx_part.proofs.Spelling.{next-block, no-block, appended-more, appended-all}
use Rattle.apx_part.proofs.payload.append_blocks.Goals as goal

pub loop-block-init : goal.loop-block-init
loop-block-init c = λ plan tuples spelled. (tuples, spelled, refl)

pub owned_payloads-requires-clause-block : goal.owned_payloads-requires-clause-block
owned_payloads-requires-clause-block c =
    let is = c.requires.spelled in
    let left = c.loop-block.invariant is.0 is.1 is.2 in
    let next = next-block is.0 c.args.blocks.now c.loop-block.block-index c.block-item.result (omega arith) c.block-item.is left.0 left.1 in
    (is.0, next.0)

pub loop-block-preserved : goal.loop-block-preserved
loop-block-preserved c = λ plan tuples spelled.
    let left = c.loop-block.invariant plan tuples spelled in
    let next = next-block plan c.args.blocks.now c.loop-block.block-index c.block-item.result (omega arith) c.block-item.is left.0 left.1 in
    (next.1, next.3, appended-more c.args.n c.args.i c.loop-block.into.items c.owned_payloads.new.into.items next.0.tuples next.1 left.0 _ (c.in_ok-owned_payloads.ensures.ok plan next.0) next.2 left.2)

pub returns : goal.returns
returns c = λ plan tuples spelled.
    let left = c.loop-block.invariant plan tuples spelled in
    appended-all c.args.n c.args.i c.loop-block.into.items left.0 _ (no-block plan c.args.blocks.now c.loop-block.block-index left.0 (omega arith) left.1) left.2
