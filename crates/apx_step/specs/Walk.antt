-- A walk over the keys that came in a window, from the least on.
use Rattle.std.specs.Prelude.{ℕ, ◌%◌, ◌==◌, Bool, true, false, List, [], ◌∷◌, ◌++◌, ℤ, pos, map, cond, Option, Some, None, unwrap_or}
use Rattle.std.specs.Ordering.{is_eq, is_gt}
use Rattle.std.specs.List.{flat_map}
use Rattle.apx_order.specs.Sorted.{each_once}
use Rattle.apx_tuple.specs.declared.kind.Kind.{Kind}
use Rattle.apx_tuple.specs.declared.kind.Kind.TheVariants.{Keep, Scale, Words, Prefix, Count, Sum, Peak, First, Tumble, Match, Enrich}
use Rattle.apx_tuple.specs.declared.tuple.Tuple.{Tuple}
use Rattle.apx_tuple.specs.State.{Pair, value_at, with_entry}
use Rattle.apx_tuple.specs.Tuple.{key_order, tuple_key}
use Rattle.apx_rules.specs.Rule.{Outcome, rule, came, total, keep_rule, scale_rule, words_rule, prefix_rule, match_rule}
use Rattle.apx_rules.specs.Step.{values_of}

-- the values of some tuples
abbrev pub values : List Tuple → List ℤ
values tuples = map (λ t. t.value) tuples

-- what an operator makes of a key at a window that ends no sum; no kind but `tumble` looks at the window
unfoldable pub open_rule : Kind → List ℕ → Option ℤ → List ℤ → List ℤ → Outcome
open_rule (Tumble every) key old lefts rights = record {
  entry = cond (came lefts) (Some (total (unwrap_or old (pos 0)) lefts)) old;
  emitted = [];
}
open_rule kind key old lefts rights = rule kind 0 key old lefts rights

-- what the kinds that keep nothing emit of a key; the others have no part in it
unfoldable pub emitted_of_passing : Kind → List ℕ → List ℤ → List ℤ → List Tuple
emitted_of_passing (Keep min max) key lefts rights = (keep_rule min max key lefts).emitted
emitted_of_passing (Scale factor) key lefts rights = (scale_rule factor key lefts).emitted
emitted_of_passing Words key lefts rights = (words_rule key lefts).emitted
emitted_of_passing (Prefix len) key lefts rights = (prefix_rule len key lefts).emitted
emitted_of_passing Match key lefts rights = (match_rule key lefts rights).emitted
emitted_of_passing kind key lefts rights = []

-- the same, of a key's tuples in the two bags
abbrev pub open_outcome : Kind → List Pair → List Tuple → List Tuple → List ℕ → Outcome
open_outcome kind pairs left right key = open_rule kind key (value_at pairs key) (values_of key left) (values_of key right)

-- the keys that came, in ascending order, each once
abbrev pub keys_came : List Tuple → List Tuple → List (List ℕ)
keys_came left right = each_once key_order (map tuple_key left ++ map tuple_key right)

-- the pairs with the key's entry, where it has one
abbrev pub put : Option ℤ → List ℕ → List Pair → List Pair
put None key pairs = pairs
put (Some value) key pairs = with_entry pairs key value

-- the pairs with the entry of each key
abbrev pub put_all : (List ℕ → Option ℤ) → List (List ℕ) → List Pair → List Pair
put_all entry [] pairs = pairs
put_all entry (key ∷ keys) pairs = put_all entry keys (put (entry key) key pairs)

-- what is kept after the walk
unfoldable pub walked : Kind → List Pair → List Tuple → List Tuple → List Pair
walked kind pairs left right = put_all (λ key. (open_outcome kind pairs left right key).entry) (keys_came left right) pairs

-- what is emitted on the walk
unfoldable pub emitted_of : Kind → List Pair → List Tuple → List Tuple → List Tuple
emitted_of kind pairs left right = flat_map (λ key. (open_outcome kind pairs left right key).emitted) (keys_came left right)

-- the lesser of the keys that two lists begin with
abbrev pub first_key : List Tuple → List Tuple → Option (List ℕ)
first_key [] [] = None
first_key (l ∷ lefts) [] = Some l.key
first_key [] (r ∷ rights) = Some r.key
first_key (l ∷ lefts) (r ∷ rights) = Some (cond (is_gt (key_order l.key r.key)) r.key l.key)

-- the tuples with the key that come first
abbrev pub group_of : List ℕ → List Tuple → List Tuple
group_of key [] = []
group_of key (t ∷ tuples) = cond (is_eq (key_order key t.key)) (t ∷ group_of key tuples) []

-- the tuples from the first with another key on
abbrev pub past_group : List ℕ → List Tuple → List Tuple
past_group key [] = []
past_group key (t ∷ tuples) = cond (is_eq (key_order key t.key)) (past_group key tuples) (t ∷ tuples)

-- the kinds that keep an entry for a key; the others keep nothing
abbrev pub keeps : Kind → Bool
keeps Count = true
keeps Sum = true
keeps Peak = true
keeps First = true
keeps (Tumble every) = true
keeps Enrich = true
keeps kind = false

-- what the walk begins with
abbrev pub start_of : Kind → List Pair → List Pair
start_of kind pairs = cond (keeps kind) pairs []

-- the windows at which an operator emits all it keeps, and forgets it
abbrev pub closes : Kind → ℕ → Bool
closes (Tumble every) window = window % every == 0
closes kind window = false

-- a pair as a tuple
abbrev pub pair_tuple : Pair → Tuple
pair_tuple p = record { key = p.0; value = p.1 }
