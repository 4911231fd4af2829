-- Pairs whose keys ascend are known by what they keep for each key; so what is collected of them is these pairs.
use Rattle.std.proofs.Common.{◌≡◌, ◌∙◌, ℕ, ℤ, ◌&&◌, Bool, true, false, cond, T, List, [], ◌∷◌, refl, sym, ap, subst, Some}
use Rattle.std.specs.Cmp.{eq_by_cmp_equiv}
use Rattle.std.specs.Map.{keys_of}
use Rattle.std.specs.BTreeMap.{BTreeMap, IsFromIterResult}
use Rattle.std.specs.FinMap.Entries.{find, below_all, is_sorted, same_entries}
use Rattle.std.specs.List.{AllByRecursion}
use Rattle.std.specs.List.Sorted.{IsStrictlySortedBy}
use Rattle.std.specs.Ordering.{eq_by_cmp, is_eq, is_lt}
use Rattle.std.specs.declared.cmp.Ordering.TheVariants.{Less}
use Rattle.std.proofs.lemmas.Map.Keys.{IsDistinct-from_sorted}
use Rattle.std.proofs.lemmas.Map.Made.{update_all_none}
use Rattle.apx_tuple.specs.State.{Pair, value_at}
use Rattle.apx_tuple.specs.Tuple.{key_order}
use Rattle.apx_tuple.proofs.Orders.{key_order-exact}

-- std's tests of an order, by what `IsStrictlySortedBy` says
is_below : (k : List ℕ) (pairs : List Pair) → AllByRecursion (λ q. key_order k q ≡ Less) (keys_of pairs) → T (below_all key_order k pairs)
is_below k [] a = tt
is_below k (p ∷ pairs) a = subst (λ r. T (is_lt r && below_all key_order k pairs)) (sym a.0) (is_below k pairs a.1)

is_in_order : (pairs : List Pair) → IsStrictlySortedBy key_order (keys_of pairs) → T (is_sorted key_order pairs)
unfolding IsStrictlySortedBy
is_in_order [] a = tt
is_in_order (p ∷ pairs) a = by (below_all key_order p.0 pairs) (is_below p.0 pairs a.0) (is_in_order pairs a.1)
  where
    by : (b : Bool) → T b → T (is_sorted key_order pairs) → T (b && is_sorted key_order pairs)
    by true t rest = rest
    by false t rest = t

found : (q : List ℕ) (pairs : List Pair) → find key_order q pairs ≡ value_at pairs q
found q [] = refl
found q (p ∷ pairs) = ap (cond (is_eq (key_order q p.0)) (Some p.1)) (found q pairs)

pub collected : (pairs : List Pair) (made : BTreeMap (List ℕ) ℤ) → IsStrictlySortedBy key_order (keys_of pairs) → IsFromIterResult key_order pairs made → made.entries ≡ pairs
collected pairs made ascends is =
    let apart = IsDistinct-from_sorted key_order (keys_of pairs) ascends in
    same_entries key_order key_order-exact.total key_order-exact.tight made.entries pairs (is_in_order made.entries is.1) (is_in_order pairs ascends)
    (λ q. found q made.entries ∙ is.0 q ∙ update_all_none (eq_by_cmp_equiv key_order-exact.total) (eq_by_cmp key_order) (λ x y. refl) pairs q apart ∙ sym (found q pairs))
