-- Tuples in the order of their ranks.
use Rattle.std.specs.Prelude.{◌≡◌, List}
use Rattle.apx_order.specs.Sorted.{sorted}
use Rattle.apx_tuple.specs.declared.tuple.Tuple.{Tuple}
use Rattle.apx_rules.specs.Step.{rank_order}

-- the first in rank comes first
abbrev pub AreRanked : List Tuple → Type 0
AreRanked tuples = sorted rank_order tuples ≡ tuples
