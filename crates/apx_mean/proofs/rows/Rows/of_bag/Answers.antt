use Rattle.std.proofs.Common.{ap, ◌∙◌}
use Rattle.apx_order.proofs.Sorting.{sorted-of-ascending}
use Rattle.apx_tuple.specs.Tuple.{bag_of}
use Rattle.apx_tuple.proofs.Orders.{tuple_order-exact}
use Rattle.apx_mean.proofs.rows.Rows.of_bag.Goals as goal

pub returns : goal.returns
returns c = ap bag_of c.into_tuples.ensures.tuples ∙ sorted-of-ascending tuple_order-exact c.args.bag c.into_tuples.ensures.bag.ascends
