-- What a fold serves, and what it gives at a window's end.
use Rattle.std.specs.Prelude.{ℕ, List, ◌++◌, ◌==◌, ◌⊎◌, if◌then◌else◌}
use Rattle.apx_tuple.specs.declared.kind.Kind.{Kind}
use Rattle.apx_tuple.specs.declared.tuple.Tuple.{Tuple}
use Rattle.apx_tuple.specs.Size.{IsLarge}
use Rattle.apx_tuple.specs.State.{Pair, pair_key}
use Rattle.apx_tuple.specs.Tuple.{tuple_key, bag_of}
use Rattle.apx_rules.specs.Parts.{cut_bag, cut_state}
use Rattle.apx_rules.specs.Step.{Stepped, step}

-- a partition of an operator
pub record Partition : Type 0 where
  -- what the operator does
  pub kind : Kind
  -- how many partitions it has
  pub n : ℕ
  -- the partition's number, from 0
  pub i : ℕ

-- the tuples whose keys the partition owns
abbrev pub owned : Partition → List Tuple → List Tuple
owned part tuples = cut_bag part.n part.i tuples

-- what was taken on the left once these came on a port, of which 0 is the left one
abbrev pub left_after : ℕ → List Tuple → List Tuple → List Tuple
left_after port lefts tuples = if port == 0 then lefts ++ tuples else lefts

-- what was taken on the right once these came on a port
abbrev pub right_after : ℕ → List Tuple → List Tuple → List Tuple
right_after port rights tuples = if port == 0 then rights else rights ++ tuples

-- the step of a window from a state, over what the partition owns of the tuples that came on its ports
abbrev pub stepped : Partition → ℕ → List Pair → List Tuple → List Tuple → Stepped
stepped part window state lefts rights = step part.kind window state (owned part (bag_of lefts)) (owned part (bag_of rights))

-- the part of the state that the partition owns
abbrev pub owned_state : Partition → List Pair → List Pair
owned_state part state = cut_state part.n part.i state

-- the tuples that came on a port are too large for a bag, or what the step gives is too large
abbrev pub IsTooLarge : Stepped → List Tuple → List Tuple → Type 0
IsTooLarge given lefts rights =
    IsLarge tuple_key (bag_of lefts) ⊎ IsLarge tuple_key (bag_of rights) ⊎ IsLarge pair_key given.state ⊎ IsLarge tuple_key given.rows
