-- The tuples of some blocks, and of some lists of blocks.
use Rattle.std.specs.Prelude.{◌≡◌, List, [], ◌∷◌, ◌++◌, ⊤}
use Rattle.apx_tuple.specs.declared.tuple.Tuple.{Tuple}
use Rattle.apx_list.specs.declared.block.Block.{Block}
use Rattle.apx_list.specs.declared.plan.CutPlan.{CutPlan}
use Rattle.apx_list.specs.Block.{Spells}

-- each block spells what it says, and these are their tuples, block after block
abbrev pub AreSpelled : CutPlan → List Block → List Tuple → Type 0
AreSpelled plan [] tuples = tuples ≡ []
AreSpelled plan (block ∷ blocks) tuples =
    (spells : Spells plan block) × (rest : List Tuple) × (tuples ≡ spells.tuples ++ rest) × AreSpelled plan blocks rest

-- so does each list, with one bag of tuples for each
abbrev pub AreListed : CutPlan → List (List Block) → List (List Tuple) → Type 0
AreListed plan [] [] = ⊤
AreListed plan [] (bag ∷ bags) = ⊥
AreListed plan (blocks ∷ lists) [] = ⊥
AreListed plan (blocks ∷ lists) (bag ∷ bags) = AreSpelled plan blocks bag × AreListed plan lists bags
