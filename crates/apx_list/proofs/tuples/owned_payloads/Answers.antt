use Rattle.std.proofs.Common.{◌∙◌}
use Rattle.apx_list.specs.Block.{block_messages}
use Rattle.apx_list.proofs.Left.{tuples_of-block}
use Rattle.apx_list.proofs.tuples.owned_payloads.Goals as goal

pub returns-else-is_err-clause-ok : goal.returns-else-is_err-clause-ok
returns-else-is_err-clause-ok c = λ plan spells.
    rw (← tuples_of-block plan c.args.block.now spells) (c.append_owned-appended.ensures.ok (block_messages plan c.args.block.now spells.tuples spells.ends) spells.whole (c.as_slice.ensures ∙ spells.bytes))
