-- The tuples of the blocks of a window, block after block and list after list.
use Rattle.std.proofs.Common.{◌≡◌, ℕ, ◌+◌, ◌≤◌, ◌<◌, ◌==◌, List, [], ◌∷◌, ◌++◌, length, map, drop, get_or, refl, sym, ap, subst, ◌∙◌, append_assoc, add-one, drop-cons}
use Rattle.std.specs.List.{filter, flat_map}
use Rattle.std.specs.declared.vec.Vec.{Vec}
use Rattle.std.specs.Global.{Global}
use Rattle.std.proofs.lemmas.List.{drop_all}
use Rattle.std.proofs.lemmas.List.Elements.{filter-append}
use Rattle.apx_codec.specs.KeyNumber.{owner_of}
use Rattle.apx_tuple.specs.declared.tuple.Tuple.{Tuple}
use Rattle.apx_list.specs.declared.block.Block.{Block}
use Rattle.apx_list.specs.declared.plan.CutPlan.{CutPlan}
use Rattle.apx_list.specs.Block.{Spells, IsBlock}
use Rattle.apx_list.specs.Window.{SpellRest, SpellWindow}
use Rattle.apx_rules.specs.Parts.{cut_bag}
use Rattle.apx_part.specs.Fed.{AreWindows}
use Rattle.apx_part.specs.Spelled.{AreSpelled, AreListed}

nil : {X : Type 0} (xs : List X) → xs ++ [] ≡ xs
nil [] = refl
nil (x ∷ xs) = ap (λ l. x ∷ l) (nil xs)

rest-spelled : (plan : CutPlan) (w index : ℕ) (blocks : List Block) (tuples : List Tuple) → SpellRest plan w index blocks tuples → AreSpelled plan blocks tuples
rest-spelled plan w index [] tuples h = absurd h
rest-spelled plan w index (block ∷ []) tuples h = (h.1, [], h.2 ∙ sym (nil h.1.tuples), refl)
rest-spelled plan w index (block ∷ next ∷ blocks) tuples h = (h.1, h.2, h.3, rest-spelled plan w (index + 1) (next ∷ blocks) h.2 h.4)

-- lists of all blocks of a window are lists of blocks
pub windows-listed : (plan : CutPlan) (w : ℕ) (lists : List (List Block)) (bags : List (List Tuple)) → AreWindows plan w lists bags → AreListed plan lists bags
windows-listed plan w [] [] h = tt
windows-listed plan w [] (bag ∷ bags) h = absurd h
windows-listed plan w (blocks ∷ lists) [] h = absurd h
windows-listed plan w (blocks ∷ lists) (bag ∷ bags) h = (rest-spelled plan w 0 blocks bag h.0, windows-listed plan w lists bags h.1)

-- ---- one block further

module _ (plan : CutPlan) (blocks : List Block) (k : ℕ) where
  front : (block : Block) → k < length blocks → block ≡ get_or blocks k block → drop k blocks ≡ block ∷ drop (k + 1) blocks
  front block l e = rw add-one (drop-cons blocks k block l) ∙ ap (λ (b : Block). b ∷ drop (k + 1) blocks) (sym e)

  pub next-block : (block : Block) → k < length blocks → block ≡ get_or blocks k block → (tuples : List Tuple) → AreSpelled plan (drop k blocks) tuples →
      (spells : Spells plan block) × (rest : List Tuple) × (tuples ≡ spells.tuples ++ rest) × AreSpelled plan (drop (k + 1) blocks) rest
  next-block block l e tuples h = subst (λ (bs : List Block). AreSpelled plan bs tuples) (front block l e) h

  pub no-block : (tuples : List Tuple) → length blocks ≤ k → AreSpelled plan (drop k blocks) tuples → tuples ≡ []
  no-block tuples l h = subst (λ (bs : List Block). AreSpelled plan bs tuples) (drop_all k blocks l) h

-- the tuples of what comes next are appended
pub appended-more : (n i : ℕ) (old new first rest tuples all : List Tuple) → new ≡ old ++ cut_bag n i first → tuples ≡ first ++ rest → old ++ cut_bag n i tuples ≡ all → new ++ cut_bag n i rest ≡ all
appended-more n i old new first rest tuples all e t h =
    ap (λ (ts : List Tuple). ts ++ cut_bag n i rest) e
    ∙ append_assoc old (cut_bag n i first) (cut_bag n i rest)
    ∙ ap (λ (ts : List Tuple). old ++ ts) (sym (filter-append (λ (u : Tuple). owner_of n u.key == i) first rest))
    ∙ ap (λ (ts : List Tuple). old ++ cut_bag n i ts) (sym t) ∙ h

-- and at the end all are
pub appended-all : (n i : ℕ) (old tuples all : List Tuple) → tuples ≡ [] → old ++ cut_bag n i tuples ≡ all → old ≡ all
appended-all n i old tuples all e h = sym (nil old) ∙ ap (λ (ts : List Tuple). old ++ cut_bag n i ts) (sym e) ∙ h

-- ---- one list further

-- the blocks of each list
abbrev pub blocks_in : List (Vec Block Global) → List (List Block)
blocks_in lists = map (λ list. list.items) lists

module _ (plan : CutPlan) (lists : List (Vec Block Global)) (k : ℕ) where
  front-list : (list : Vec Block Global) → k < length lists → list ≡ get_or lists k list → drop k lists ≡ list ∷ drop (k + 1) lists
  front-list list l e = rw add-one (drop-cons lists k list l) ∙ ap (λ (b : Vec Block Global). b ∷ drop (k + 1) lists) (sym e)

  -- a list with its bag, and those behind it
  abbrev pub IsNextList : Vec Block Global → List (List Tuple) → Type 0
  IsNextList list bags = (bag : List Tuple) × (rest : List (List Tuple)) × (bags ≡ bag ∷ rest) × AreSpelled plan list.items bag × AreListed plan (blocks_in (drop (k + 1) lists)) rest

  split-list : (list : Vec Block Global) (bags : List (List Tuple)) → AreListed plan (blocks_in (list ∷ drop (k + 1) lists)) bags → IsNextList list bags
  split-list list [] h = absurd h
  split-list list (bag ∷ bags) h = (bag, bags, refl, h.0, h.1)

  pub next-list : (list : Vec Block Global) → k < length lists → list ≡ get_or lists k list → (bags : List (List Tuple)) → AreListed plan (blocks_in (drop k lists)) bags → IsNextList list bags
  next-list list l e bags h = split-list list bags (subst (λ (ls : List (Vec Block Global)). AreListed plan (blocks_in ls) bags) (front-list list l e) h)

  none-listed : (bags : List (List Tuple)) → AreListed plan [] bags → flat_map (λ bag. bag) bags ≡ []
  none-listed [] h = refl
  none-listed (bag ∷ bags) h = absurd h

  pub no-list : (bags : List (List Tuple)) → length lists ≤ k → AreListed plan (blocks_in (drop k lists)) bags → flat_map (λ bag. bag) bags ≡ []
  no-list bags l h = none-listed bags (subst (λ (ls : List (Vec Block Global)). AreListed plan (blocks_in ls) bags) (drop_all k lists l) h)
