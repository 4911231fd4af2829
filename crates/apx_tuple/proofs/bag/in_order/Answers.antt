use Rattle.std.proofs.Common.{sym, subst}
use Rattle.apx_order.specs.Sorted.{IsAscending}
use Rattle.apx_order.proofs.Sorting.{sorted-by-sort, sorted-of-ascending}
use Rattle.std.proofs.lemmas.List.Sorted.{IsPermutation-trans}
use Rattle.apx_tuple.specs.Tuple.{tuple_order}
use Rattle.apx_tuple.proofs.Orders.{tuple_order-exact}
use Rattle.apx_tuple.proofs.bag.in_order.Goals as goal

pub returns : goal.returns
returns c = sorted-by-sort tuple_order-exact _ _ (IsPermutation-trans _ _ _ c.in_ok-sort_by_cached_key.ensures.permutation c.in_ok-sort.ensures.permutation) c.in_ok-sort.ensures.sorted

pub returns-then-ascends : goal.returns-then-ascends
returns-then-ascends c = sym (sorted-of-ascending tuple_order-exact c.args.tuples.items (subst (IsAscending tuple_order) c.deref.ensures.value c.if-ascends.ensures))
