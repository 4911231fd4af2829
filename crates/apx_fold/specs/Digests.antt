-- Kinds for which one number stands for all the values of a key in a window.
use Rattle.std.specs.Prelude.{◌≡◌, ◌≤◌, ℕ, Bool, true, false, ℤ, pos, List, [], ◌∷◌, Option, Some, None}
use Rattle.std.specs.List.Sorted.{IsStrictlySortedBy}
use Rattle.std.specs.Map.{keys_of}
use Rattle.std.specs.Int.{int_wrapping_add, int_max, int_min, w64}
use Rattle.apx_tuple.specs.declared.kind.Kind.{Kind}
use Rattle.apx_tuple.specs.declared.kind.Kind.TheVariants.{Count, Sum, Peak, First, Tumble}
use Rattle.apx_tuple.specs.declared.tuple.Tuple.{Tuple}
use Rattle.apx_tuple.specs.Size.{size_by}
use Rattle.apx_tuple.specs.State.{Pair, pair_key, value_at}
use Rattle.apx_tuple.specs.Tuple.{key_order, tuple_key}
use Rattle.apx_rules.specs.Step.{values_of}

-- the kinds for which one number stands for a key's values
abbrev pub digests : Kind → Bool
digests Count = true
digests Sum = true
digests Peak = true
digests First = true
digests (Tumble every) = true
digests kind = false

-- the number that stands for one value: it, but for `count`, which counts it
unfoldable pub digest_of_one : Kind → ℤ → ℤ
digest_of_one Count value = pos 1
digest_of_one kind value = value

-- the number that stands for what two numbers stand for: the greater, the lesser, or else their sum
unfoldable pub digest_of_two : Kind → ℤ → ℤ → ℤ
digest_of_two Peak first second = int_max first second
digest_of_two First first second = int_min first second
digest_of_two kind first second = int_wrapping_add w64 first second

-- the number that stands for one value more
abbrev pub digest_with : Kind → Option ℤ → ℤ → ℤ
digest_with kind None value = digest_of_one kind value
digest_with kind (Some before) value = digest_of_two kind before (digest_of_one kind value)

-- the number that stands for what was there before, and some values
abbrev pub digest_from : Kind → Option ℤ → List ℤ → Option ℤ
digest_from kind before [] = before
digest_from kind before (value ∷ values) = digest_from kind (Some (digest_with kind before value)) values

-- the kind that makes of the numbers what the kind makes of the values: numbers of tuples are added up
unfoldable pub kind_of_digests : Kind → Kind
kind_of_digests Count = Sum
kind_of_digests kind = kind

-- the pairs have for each key that came the number that stands for its values
pub record AreDigests (kind : Kind) (pairs : List Pair) (tuples : List Tuple) : Type 0 where
  -- their keys ascend, each once
  pub ascend : IsStrictlySortedBy key_order (keys_of pairs)
  -- and there is nothing for other keys
  pub values : (key : List ℕ) → value_at pairs key ≡ digest_from kind None (values_of key tuples)
  -- so they are no larger than the tuples
  pub small : size_by pair_key pairs ≤ size_by tuple_key tuples
