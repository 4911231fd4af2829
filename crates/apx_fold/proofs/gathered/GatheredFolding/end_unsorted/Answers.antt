use Rattle.std.proofs.Common.{ap, ◌∙◌}
use Rattle.apx_order.proofs.Sorting.{sorted-of-ascending}
use Rattle.apx_tuple.specs.Tuple.{bag_of}
use Rattle.apx_tuple.proofs.Orders.{tuple_order-exact}
use Rattle.apx_fold.proofs.gathered.GatheredFolding.end_unsorted.Goals as goal

pub returns-clause-ok : goal.returns-clause-ok
returns-clause-ok c = λ lefts rights stands.
    let p = c.in_ok-kept.ensures.ok lefts rights stands in
    (p.0, ap bag_of c.into_tuples.ensures.tuples ∙ sorted-of-ascending tuple_order-exact c.in_ok-kept.rows c.into_tuples.ensures.bag.ascends ∙ p.1)
