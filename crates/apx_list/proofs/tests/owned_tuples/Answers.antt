use Rattle.std.proofs.Common.{◌<◌, length, arith}
use Rattle.apx_list.proofs.Appending.{AllSpell-at}
use Rattle.apx_list.proofs.tests.owned_tuples.Goals as goal

pub owned_payloads-requires-clause-block : goal.owned_payloads-requires-clause-block
owned_payloads-requires-clause-block c =
    let there : c.loop-block.block-index < length c.args.blocks.now = omega arith in
    (c.args.plan, AllSpell-at c.args.plan c.args.blocks.now c.loop-block.block-index _ c.requires.spell there c.block-item.is)
