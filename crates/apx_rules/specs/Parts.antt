-- An operator in n partitions: what each of them owns, and what they make together. Partitions count from 0.
--     cut_bag n i, cut_state n i    the members that partition i owns
--     of_parts n f                  what f gives for each partition, from the first on
--     merge_bags, merge_states      the partitions' bags or states as one
--     unify kind                    the partitions' outputs as one
use Rattle.std.specs.Prelude.{ℕ, ◌==◌, List, map}
use Rattle.std.specs.declared.cmp.Ordering.{Ordering}
use Rattle.std.specs.Ordering.{int_cmp, ordering_then}
use Rattle.std.specs.List.{filter, flat_map, range_with_len}
use Rattle.apx_order.specs.Sorted.{sorted}
use Rattle.apx_tuple.specs.declared.kind.Kind.{Kind}
use Rattle.apx_tuple.specs.declared.kind.Kind.TheVariants.{Top}
use Rattle.apx_tuple.specs.declared.tuple.Tuple.{Tuple}
use Rattle.apx_tuple.specs.State.{Pair}
use Rattle.apx_tuple.specs.Tuple.{key_order, bag_of}
use Rattle.apx_codec.specs.KeyNumber.{owner_of}
use Rattle.apx_rules.specs.Step.{Stepped, step, top_of}

-- the tuples whose keys partition i of n owns
abbrev pub cut_bag : ℕ → ℕ → List Tuple → List Tuple
cut_bag n i tuples = filter (λ t. owner_of n t.key == i) tuples

-- the pairs whose keys partition i of n owns
abbrev pub cut_state : ℕ → ℕ → List Pair → List Pair
cut_state n i pairs = filter (λ p. owner_of n p.0 == i) pairs

-- what partition i of n makes of a window: a step over what it owns
abbrev pub step_part : ℕ → ℕ → Kind → ℕ → List Pair → List Tuple → List Tuple → Stepped
step_part n i kind window state left right = step kind window (cut_state n i state) (cut_bag n i left) (cut_bag n i right)

-- something of each of n partitions
abbrev pub of_parts : {X : Type 0} → ℕ → (ℕ → X) → List X
of_parts n f = map f (range_with_len 0 n)

-- all their tuples as one bag
abbrev pub merge_bags : List (List Tuple) → List Tuple
merge_bags parts = bag_of (flat_map (λ part. part) parts)

-- by key, and then by value
abbrev pub pair_order : Pair → Pair → Ordering
pair_order p q = ordering_then (key_order p.0 q.0) (int_cmp p.1 q.1)

-- all their pairs as one state
abbrev pub merge_states : List (List Pair) → List Pair
merge_states parts = sorted pair_order (flat_map (λ part. part) parts)

-- their outputs as one; `top` keeps the first k of them
unfoldable pub unify : Kind → List (List Tuple) → List Tuple
unify (Top k) parts = top_of k (merge_bags parts)
unify kind parts = merge_bags parts
