-- Which rows are still needed while the operators are gone through.
use Rattle.std.specs.Prelude.{◌≡◌, ℕ, ◌<◌, ◌⊎◌, true, List, [], length, drop, slice_index, slice_index_or}
use Rattle.std.specs.List.{flat_map}
use Rattle.apx_tuple.specs.declared.tuple.Tuple.{Tuple}
use Rattle.apx_pass.specs.Graph.{Node}
use Rattle.apx_pass.specs.Order.{sources, stands_in}

-- whom the operators read that stand in the order from place k on, one after the other
abbrev pub reads_from : List Node → List ℕ → ℕ → List ℕ
reads_from nodes order k = flat_map (sources nodes) (drop k order)

-- the rows at a place are needed: they are the sink's, or those of an operator that is still to be read
abbrev pub IsNeeded : List ℕ → ℕ → List ℕ → ℕ → Type 0
IsNeeded order sink reads place = (place ≡ sink) ⊎ (stands_in reads (slice_index order place) ≡ true)

-- the rows that are needed stand at their operators' places
abbrev pub AreKept : (ℕ → List Tuple) → List ℕ → ℕ → List ℕ → List (List Tuple) → Type 0
AreKept gives order sink reads rows =
    (place : ℕ) → place < length rows → IsNeeded order sink reads place → slice_index_or rows place [] ≡ gives (slice_index order place)
