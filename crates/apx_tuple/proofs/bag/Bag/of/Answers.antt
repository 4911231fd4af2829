use Rattle.std.proofs.Common.{arith, ap, subst, sym}
use Rattle.apx_order.specs.Sorted.{IsAscending}
use Rattle.apx_order.proofs.Sorting.{sorted-ascends}
use Rattle.apx_tuple.specs.Size.{size_by}
use Rattle.apx_tuple.specs.Tuple.{tuple_key, tuple_order}
use Rattle.apx_tuple.proofs.Orders.{tuple_order-exact}
use Rattle.apx_tuple.proofs.Sizes.{size_by-bag_of}
use Rattle.apx_tuple.proofs.bag.Bag.of.Goals as goal

pub invariant_of-result : goal.invariant_of-result
invariant_of-result c =
    let now = ap (size_by tuple_key) c.in_ok-in_order.ensures in
    let given = ap (size_by tuple_key) c.deref.ensures.value in (
      omega (arith, now, given, size_by-bag_of c.args.tuples.items, c.in-Some.ensures.size),
      record {
        ascends = subst (IsAscending tuple_order) (sym c.in_ok-in_order.ensures) (sorted-ascends tuple_order-exact c.args.tuples.items);
        small = omega (arith, now, given, size_by-bag_of c.args.tuples.items, c.in-Some.ensures.small);
      },
    )

pub returns-clause-small : goal.returns-clause-small
returns-clause-small c = omega (arith, size_by-bag_of c.args.tuples.items, c.in-Some.ensures.small, ap (size_by tuple_key) c.deref.ensures.value)

pub returns-in_default-clause-large : goal.returns-in_default-clause-large
returns-in_default-clause-large c = λ _. omega (arith, size_by-bag_of c.args.tuples.items, c.in_default.ensures.large, ap (size_by tuple_key) c.deref.ensures.value)
