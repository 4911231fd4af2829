-- The blocks of a whole window.
use Rattle.std.specs.Prelude.{◌≡◌, ℕ, ◌+◌, List, [], ◌∷◌, ◌++◌, Bool, true, false}
use Rattle.apx_tuple.specs.declared.tuple.Tuple.{Tuple}
use Rattle.apx_list.specs.declared.plan.CutPlan.{CutPlan}
use Rattle.apx_list.specs.declared.block.Block.{Block}
use Rattle.apx_list.specs.Block.{Spells}

-- the block is of this window, with this index and mark
abbrev pub IsAt : ℕ → ℕ → Bool → Block → Type 0
IsAt window index last block = (block.window ≡ window) × (block.index ≡ index) × (block.last ≡ last)

-- Blocks of a window from an index on up to its last one, the only one that is marked so. Each spells what it says,
-- and these are their tuples, block after block.
abbrev pub SpellRest : CutPlan → ℕ → ℕ → List Block → List Tuple → Type 0
SpellRest plan window index [] tuples = ⊥
SpellRest plan window index (block ∷ []) tuples =
    IsAt window index true block × (spells : Spells plan block) × (tuples ≡ spells.tuples)
SpellRest plan window index (block ∷ next ∷ blocks) tuples =
    IsAt window index false block
    × (spells : Spells plan block) × (rest : List Tuple)
    × (tuples ≡ spells.tuples ++ rest) × SpellRest plan window (index + 1) (next ∷ blocks) rest

-- The blocks are all those of a window, and these are their tuples. Those of a block ascend. Those of the next needn't be
-- above them: a spool may give other bytes than it was given, as long as they spell such a block.
abbrev pub SpellWindow : CutPlan → ℕ → List Block → List Tuple → Type 0
SpellWindow plan window blocks tuples = SpellRest plan window 0 blocks tuples
