use Rattle.apx_list.specs.declared.tests.TheConstants.{PLAN}
use Rattle.apx_list.specs.Cut.{blocks_of, pieces_of}
use Rattle.apx_list.proofs.tests.four_blocks.Goals as goal

pub filled-requires-clause-window : goal.filled-requires-clause-window
unfolding blocks_of
filled-requires-clause-window g c = (pieces_of PLAN 1 c.in_ok-long_keys.field-0, c.in_ok-blocks.ensures.blocks)
