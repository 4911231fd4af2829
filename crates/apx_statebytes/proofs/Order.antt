-- Rows one behind the other, as states and bags have them.
use Rattle.std.proofs.Common.{◌≡◌, ℕ, ◌+◌, ◌<◌, ◌≤◌, ◌*◌, Bool, true, false, List, [], ◌∷◌, length, map, Option, Some, None, refl, sym, ap, ◌∙◌, arith}
use Rattle.std.specs.Prelude.{IsTrue, not}
use Rattle.std.specs.declared.cmp.Ordering.{Ordering}
use Rattle.std.specs.declared.cmp.Ordering.TheVariants.{Less, Equal, Greater}
use Rattle.std.specs.Ordering.{is_lt, is_gt}
use Rattle.std.specs.List.{AllByRecursion}
use Rattle.std.specs.List.Sorted.{IsStrictlySortedBy}
use Rattle.std.specs.Map.{keys_of}
use Rattle.apx_order.specs.Sorted.{IsAscending, IsFloor}
use Rattle.apx_order.proofs.Sorting.{floor-down}
use Rattle.apx_tuple.specs.declared.tuple.Tuple.{Tuple}
use Rattle.apx_tuple.specs.Size.{size_by}
use Rattle.apx_tuple.specs.State.{Pair, pair_key}
use Rattle.apx_tuple.specs.Tuple.{key_order, tuple_order, tuple_key}
use Rattle.apx_tuple.proofs.Orders.{key_order-exact, tuple_order-exact}
use Rattle.apx_statebytes.specs.Rows.{tuple_of, row_of, key_may_follow, row_may_follow, AreInRow}

less_of : (o : Ordering) → is_lt o ≡ true → o ≡ Less
less_of Less h = refl
less_of Equal h = absurd cc
less_of Greater h = absurd cc

not_gt : (b : Bool) → not b ≡ true → b ≡ false
not_gt true h = absurd cc
not_gt false h = refl

-- ---- keys that ascend, each once

above : (key : List ℕ) (before : Pair) (rows : List Pair) → key_order key before.0 ≡ Less → AreInRow true (Some before) rows → AllByRecursion (λ q. key_order key q ≡ Less) (keys_of rows)
above key before [] lt h = tt
above key before (row ∷ rows) lt h =
    let next : key_order key row.0 ≡ Less = key_order-exact.total.trans key before.0 row.0 lt (less_of (key_order before.0 row.0) h.0) in
    (next, above key row rows next h.2)

firsts : (before : Pair) (rows : List Pair) → AreInRow true (Some before) rows → AllByRecursion (λ q. key_order before.0 q ≡ Less) (keys_of rows)
firsts before [] h = tt
firsts before (row ∷ rows) h =
    let lt = less_of (key_order before.0 row.0) h.0 in
    (lt, above before.0 row rows lt h.2)

pub strict_of : (before : Option Pair) (rows : List Pair) → AreInRow true before rows → IsStrictlySortedBy key_order (keys_of rows)
unfolding IsStrictlySortedBy
strict_of before [] h = tt
strict_of before (row ∷ rows) h = (firsts row rows h.2, strict_of (Some row) rows h.2)

in_row_behind : (before : Pair) (rows : List Pair) → AllByRecursion (λ q. key_order before.0 q ≡ Less) (keys_of rows) → IsStrictlySortedBy key_order (keys_of rows) → AreInRow true (Some before) rows
unfolding IsStrictlySortedBy
in_row_behind before [] lt h = tt
in_row_behind before (row ∷ rows) lt h = (ap is_lt lt.0, refl, in_row_behind row rows h.0 h.1)

pub in_row_of_strict : (rows : List Pair) → IsStrictlySortedBy key_order (keys_of rows) → AreInRow true None rows
unfolding IsStrictlySortedBy
in_row_of_strict [] h = tt
in_row_of_strict (row ∷ rows) h = (refl, refl, in_row_behind row rows h.0 h.1)

-- ---- tuples that ascend

record IsBehind (before : Tuple) (tuples : List Tuple) : Type 0 where
  pub floor : IsFloor tuple_order before tuples
  pub ascends : IsAscending tuple_order tuples

behind_of : (before : Pair) (rows : List Pair) → AreInRow false (Some before) rows → IsBehind (tuple_of before) (map tuple_of rows)
behind_of before [] h = record { floor = tt; ascends = tt }
behind_of before (row ∷ rows) h =
    let rest = behind_of row rows h.2 in
    let here : is_gt (tuple_order (tuple_of before) (tuple_of row)) ≡ false = not_gt _ h.1 in
    record {
      floor = (here, floor-down tuple_order-exact (tuple_of before) (tuple_of row) (map tuple_of rows) here rest.floor);
      ascends = (rest.floor, rest.ascends);
    }

pub ascending_of : (rows : List Pair) → AreInRow false None rows → IsAscending tuple_order (map tuple_of rows)
ascending_of [] h = tt
ascending_of (row ∷ rows) h =
    let rest = behind_of row rows h.2 in
    (rest.floor, rest.ascends)

in_row_above : (before : Tuple) (tuples : List Tuple) → IsFloor tuple_order before tuples → IsAscending tuple_order tuples → AreInRow false (Some (row_of before)) (map row_of tuples)
in_row_above before [] floor h = tt
in_row_above before (t ∷ tuples) floor h = (refl, ap not floor.0, in_row_above t tuples h.0 h.1)

pub in_row_of_ascending : (tuples : List Tuple) → IsAscending tuple_order tuples → AreInRow false None (map row_of tuples)
in_row_of_ascending [] h = tt
in_row_of_ascending (t ∷ tuples) h = (refl, refl, in_row_above t tuples h.0 h.1)

-- ---- rows and tuples

pub tuples_again : (tuples : List Tuple) → map tuple_of (map row_of tuples) ≡ tuples
tuples_again [] = refl
tuples_again (t ∷ tuples) = ap (λ (ts : List Tuple). t ∷ ts) (tuples_again tuples)

pub rows_again : (rows : List Pair) → map row_of (map tuple_of rows) ≡ rows
rows_again [] = refl
rows_again (row ∷ rows) = ap (λ (rs : List Pair). row ∷ rs) (rows_again rows)

pub size_of_tuples : (rows : List Pair) → size_by tuple_key (map tuple_of rows) ≡ size_by pair_key rows
size_of_tuples [] = refl
size_of_tuples (row ∷ rows) = omega (arith, size_of_tuples rows)

pub size_of_rows : (tuples : List Tuple) → size_by pair_key (map row_of tuples) ≡ size_by tuple_key tuples
size_of_rows [] = refl
size_of_rows (t ∷ tuples) = omega (arith, size_of_rows tuples)

-- each row has a size of ten or more
pub few_rows : {X : Type 0} (key : X → List ℕ) (xs : List X) → 10 * length xs ≤ size_by key xs
few_rows key [] = omega arith
few_rows key (x ∷ xs) = omega (arith, few_rows key xs)
