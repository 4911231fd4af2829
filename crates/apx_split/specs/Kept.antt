-- What is kept of the outputs of partitions, and states whose pairs are put together.
use Rattle.std.specs.Prelude.{ℕ, ◌≤◌, List}
use Rattle.std.specs.Map.{keys_of}
use Rattle.apx_order.specs.Sorted.{times}
use Rattle.apx_tuple.specs.declared.kind.Kind.{Kind}
use Rattle.apx_tuple.specs.declared.kind.Kind.TheVariants.{Top}
use Rattle.apx_tuple.specs.declared.tuple.Tuple.{Tuple}
use Rattle.apx_tuple.specs.State.{Pair}
use Rattle.apx_tuple.specs.Tuple.{key_order}
use Rattle.apx_rules.specs.Step.{top_of}

-- of the outputs of all partitions `top` keeps the first k, and another kind all
unfoldable pub kept_of : Kind → List Tuple → List Tuple
kept_of (Top k) tuples = top_of k tuples
kept_of kind tuples = tuples

-- no key stands twice among the pairs
abbrev pub AreOnce : List Pair → Type 0
AreOnce pairs = (key : List ℕ) → times key_order key (keys_of pairs) ≤ 1
