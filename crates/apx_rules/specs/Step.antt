-- What an operator makes of one window: of its state, and of the bags that came on its ports.
use Rattle.std.specs.Prelude.{ℕ, List, [], ◌∷◌, ◌++◌, ℤ, map, take, Option, Some, None}
use Rattle.std.specs.declared.cmp.Ordering.{Ordering}
use Rattle.std.specs.Ordering.{is_eq, int_cmp, ordering_then}
use Rattle.std.specs.List.{filter, flat_map}
use Rattle.std.specs.Map.{keys_of}
use Rattle.apx_order.specs.Sorted.{sorted, each_once}
use Rattle.apx_tuple.specs.declared.kind.Kind.{Kind}
use Rattle.apx_tuple.specs.declared.kind.Kind.TheVariants.{Top}
use Rattle.apx_tuple.specs.declared.tuple.Tuple.{Tuple}
use Rattle.apx_tuple.specs.Tuple.{key_order, tuple_key, bag_of}
use Rattle.apx_tuple.specs.State.{Pair, value_at}
use Rattle.apx_rules.specs.Rule.{Outcome, rule}

-- the state from then on, and the rows, which are a bag
pub record Stepped : Type 0 where
  -- the entries by their keys, in ascending order
  pub state : List Pair
  -- the rows as a bag
  pub rows : List Tuple

-- the values of the tuples with the key
abbrev pub values_of : List ℕ → List Tuple → List ℤ
values_of key tuples = map (λ t. t.value) (filter (λ t. is_eq (key_order key t.key)) tuples)

-- the keys of the state and of both bags, in ascending order, each once
abbrev pub step_keys : List Pair → List Tuple → List Tuple → List (List ℕ)
step_keys state left right = each_once key_order (keys_of state ++ (map tuple_key left ++ map tuple_key right))

-- a pair for each of the keys that has an entry
unfoldable pub entries_at : (List ℕ → Option ℤ) → List (List ℕ) → List Pair
entries_at entry [] = []
entries_at entry (key ∷ keys) = pair_for key (entry key) (entries_at entry keys)
  where
    pair_for : List ℕ → Option ℤ → List Pair → List Pair
    pair_for k None pairs = pairs
    pair_for k (Some value) pairs = (k, value) ∷ pairs

-- what the rule of one key makes of each key
abbrev pub outcome_at : Kind → ℕ → List Pair → List Tuple → List Tuple → List ℕ → Outcome
outcome_at kind window state left right key = rule kind window key (value_at state key) (values_of key left) (values_of key right)

-- the step of a kind that goes key by key
abbrev pub keyed_step : Kind → ℕ → List Pair → List Tuple → List Tuple → Stepped
keyed_step kind window state left right =
    let at = outcome_at kind window state left right in
    record {
      state = entries_at (λ key. (at key).entry) (step_keys state left right);
      rows = bag_of (flat_map (λ key. (at key).emitted) (step_keys state left right));
    }

-- by value from the greatest down, and then by key
abbrev pub rank_order : Tuple → Tuple → Ordering
rank_order x y = ordering_then (int_cmp y.value x.value) (key_order x.key y.key)

-- the k tuples that rank first
abbrev pub top_of : ℕ → List Tuple → List Tuple
top_of k tuples = bag_of (take k (sorted rank_order tuples))

-- what each kind makes of a window
unfoldable pub step : Kind → ℕ → List Pair → List Tuple → List Tuple → Stepped
step (Top k) window state left right = record { state = []; rows = top_of k left }
step kind window state left right = keyed_step kind window state left right
