-- The order of tuples, and bags: ascending lists of tuples.
use Rattle.std.specs.Prelude.{ℕ, ◌<◌, List}
use Rattle.std.specs.declared.cmp.Ordering.{Ordering}
use Rattle.std.specs.Ordering.{nat_cmp, int_cmp, ordering_then}
use Rattle.std.specs.Cmp.Lexicographic.{slice_cmp}
use Rattle.apx_tuple.specs.declared.tuple.Tuple.{Tuple}
use Rattle.apx_tuple.specs.Size.{size_by}
use Rattle.apx_order.specs.Sorted.{sorted, IsAscending}

-- keys go byte by byte, with a proper prefix first
abbrev pub key_order : List ℕ → List ℕ → Ordering
key_order = slice_cmp nat_cmp

-- by key, and then by value
abbrev pub tuple_order : Tuple → Tuple → Ordering
tuple_order x y = ordering_then (key_order x.key y.key) (int_cmp x.value y.value)

-- a tuple's key
abbrev pub tuple_key : Tuple → List ℕ
tuple_key t = t.key

-- the bag of some tuples: these in ascending order, repeats kept
abbrev pub bag_of : List Tuple → List Tuple
bag_of = sorted tuple_order

-- what each bag is
pub record IsBag (tuples : List Tuple) : Type 0 where
  -- its tuples ascend, repeats kept
  pub ascends : IsAscending tuple_order tuples
  -- it is below the size that is too large
  pub small : size_by tuple_key tuples < 4294967232
