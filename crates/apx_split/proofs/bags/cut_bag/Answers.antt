use Rattle.apx_split.proofs.Keeping.{cut-ascends, cut-small, never}
use Rattle.apx_split.proofs.bags.cut_bag.Goals as goal

pub from_ascending-requires : goal.from_ascending-requires
from_ascending-requires c = cut-ascends c.args.n c.args.i c.args.bag.now _ c.owned.ensures.bag c.in_ok-owned.ensures.tuples

pub returns-clause-never : goal.returns-clause-never
returns-clause-never c = never _ _ c.from_ascending.ensures.large (cut-small c.args.n c.args.i c.args.bag.now _ c.owned.ensures.bag c.in_ok-owned.ensures.tuples)
