-- The order by rank is total.
use Rattle.std.specs.Cmp.{IsTotalOrder, then_total, on_total, back_total, int_cmp_total}
use Rattle.std.specs.Cmp.Lexicographic.{nat_list_cmp_total}
use Rattle.apx_tuple.specs.declared.tuple.Tuple.{Tuple}
use Rattle.apx_rules.specs.Step.{rank_order}

-- the order by rank is total (a proof that a type needs)
pub rank_order-total : IsTotalOrder rank_order
rank_order-total =
    then_total
    (on_total (λ (t : Tuple). t.value) (back_total int_cmp_total))
    (on_total (λ (t : Tuple). t.key) nat_list_cmp_total)
