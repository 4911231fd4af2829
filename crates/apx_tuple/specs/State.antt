-- States: what an operator keeps for each key, as pairs in the keys' order.
use Rattle.std.specs.Prelude.{ℕ, ℤ, ◌<◌, List, Option}
use Rattle.std.specs.Ordering.{is_eq}
use Rattle.std.specs.BTreeMap.{insert_entry}
use Rattle.std.specs.Map.{keys_of, lookup, remove_entry}
use Rattle.std.specs.List.Sorted.{IsStrictlySortedBy}
use Rattle.apx_tuple.specs.Size.{size_by}
use Rattle.apx_tuple.specs.Tuple.{key_order}

-- a key and what the operator keeps for it
abbrev pub Pair : Type 0
Pair = List ℕ × ℤ

-- a pair's key
abbrev pub pair_key : Pair → List ℕ
pair_key p = p.0

-- what is kept for a key, if anything
abbrev pub value_at : List Pair → List ℕ → Option ℤ
value_at pairs key = lookup (λ k. is_eq (key_order key k)) pairs

-- the pairs with the value kept for the key, in place of what was kept for it
abbrev pub with_entry : List Pair → List ℕ → ℤ → List Pair
with_entry pairs key value = insert_entry key_order pairs key value

-- the pairs without the key's
abbrev pub without_entry : List Pair → List ℕ → List Pair
without_entry pairs key = remove_entry (λ k. is_eq (key_order key k)) pairs

-- what each state is
pub record IsState (pairs : List Pair) : Type 0 where
  -- its keys ascend, each once
  pub ascends : IsStrictlySortedBy key_order (keys_of pairs)
  -- it is below the size that is too large
  pub small : size_by pair_key pairs < 4294967232
