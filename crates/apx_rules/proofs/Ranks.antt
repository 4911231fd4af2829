-- Tuples of equal rank are one tuple.
use Rattle.std.proofs.Common.{◌≡◌, sym}
use Rattle.std.specs.declared.cmp.Ordering.TheVariants.{Equal}
use Rattle.std.specs.Ordering.{int_cmp}
use Rattle.std.proofs.lemmas.Cmp.{int_ranked}
use Rattle.apx_order.specs.Sorted.{IsExact}
use Rattle.apx_tuple.specs.declared.tuple.Tuple.{Tuple}
use Rattle.apx_tuple.specs.Tuple.{key_order}
use Rattle.apx_tuple.proofs.Orders.{both-equal, key_order-tight}
use Rattle.apx_rules.specs.Ranks.{rank_order-total}
use Rattle.apx_rules.specs.Step.{rank_order}

rank_order-tight : (x y : Tuple) → rank_order x y ≡ Equal → x ≡ y
rank_order-tight x y e =
    let both = both-equal (int_cmp y.value x.value) (key_order x.key y.key) e in
    let values : x.value ≡ y.value = sym (int_ranked y.value x.value Equal (sym both.0)) in
    let keys : x.key ≡ y.key = key_order-tight x.key y.key both.1 in
    λ i. record { key = keys i; value = values i }

pub rank_order-exact : IsExact rank_order
rank_order-exact = record { total = rank_order-total; tight = rank_order-tight }
