-- The blocks of a window, appended one after the other to a list that has none of its window.
use Rattle.std.proofs.Common.{◌≡◌, ℕ, zero, suc, ◌+◌, ◌<◌, ◌≤◌, List, [], ◌∷◌, ◌++◌, length, refl, ap, ◌∙◌, arith, false, cond, eqb, ltb, Option, None, get_or, length-append, subst}
use Rattle.std.proofs.lemmas.Bool.{le-ltb, ne_eqb}
use Rattle.apx_list.specs.declared.plan.CutPlan.{CutPlan}
use Rattle.apx_list.specs.declared.block.Block.{Block}
use Rattle.apx_list.specs.Block.{Spells, AllSpell}
use Rattle.apx_list.specs.Cut.{numbered}
use Rattle.apx_list.specs.Listed.{Listed, before, IsNext, with_block}
use Rattle.apx_list.proofs.Pieces.{length-numbered}
use Rattle.apx_list.proofs.Numbers.{AllSpell-get, slice_get-is, before-append}

pub AllSpell-at : (plan : CutPlan) (blocks : List Block) (i : ℕ) (block : Block) → AllSpell plan blocks → i < length blocks → block ≡ get_or blocks i block → Spells plan block
AllSpell-at plan blocks i block spell there is = AllSpell-get plan blocks i block spell (slice_get-is blocks i block there is)

-- what stands in the numbered block at a place
pub record IsNumbered (window count index : ℕ) (block : Block) : Type 0 where
  pub window_is : block.window ≡ window
  pub index_is : block.index ≡ index
  pub last_is : block.last ≡ eqb (index + 1) count

pub numbered-at : (window count index : ℕ) (pieces : List (List ℕ)) (k : ℕ) (block : Block) → k < length (numbered window count index pieces) → block ≡ get_or (numbered window count index pieces) k block → IsNumbered window count (index + k) block
numbered-at window count index [] k block there is = absurd (omega (arith, there))
numbered-at window count index (piece ∷ pieces) zero block there is =
    let at : index + 0 ≡ index = omega arith in
    rw at (record { window_is = ap (λ (b : Block). b.window) is; index_is = ap (λ (b : Block). b.index) is; last_is = ap (λ (b : Block). b.last) is })
numbered-at window count index (piece ∷ pieces) (suc k) block there is =
    let at : index + suc k ≡ (index + 1) + k = omega arith in
    rw at (numbered-at window count (index + 1) pieces k block (omega (arith, there)) is)

-- the block at a place of a window's blocks
pub of_window : (window : ℕ) (pieces : List (List ℕ)) (blocks : List Block) (k : ℕ) (block : Block) → blocks ≡ numbered window (length pieces) 0 pieces → k < length blocks → block ≡ get_or blocks k block → IsNumbered window (length blocks) k block
of_window window pieces blocks k block made there is =
    let count : length blocks ≡ length pieces = ap length made ∙ length-numbered window (length pieces) 0 pieces in
    let at : 0 + k ≡ k = omega arith in
    subst (λ n. IsNumbered window (length blocks) n block) at (rw count (numbered-at window (length pieces) 0 pieces k block (rw (← made) there) (rw (← made) is)))

-- a list that began empty, with these blocks of window 1, which has count of them
pub record Fills {N : Type 0} (name : N) (plan : CutPlan) (count : ℕ) (blocks : List Block) (list : Listed N) : Type 0 where
  pub is : list ≡ record { name = name; plan = plan; floor = 0; top = cond (eqb (length blocks) count) 1 0; first = 0; blocks = blocks }
  pub none_before : before 1 blocks ≡ 0

-- the window isn't whole before its last block
open_yet : (n count : ℕ) → n < count → ◌≡◌ {A = ℕ} (cond (eqb n count) 1 0) 0
open_yet n count lt = rw (ne_eqb n count (λ e. omega (arith, e, lt))) refl

pub fills_next : {N : Type 0} (named : N → Option (List Block)) (name : N) (plan : CutPlan) (count : ℕ) (blocks : List Block) (list : Listed N) (block : Block) → named name ≡ None → 1 ≤ plan.windows → length blocks < count → IsNumbered 1 count (length blocks) block → Spells plan block → Fills name plan count blocks list → IsNext named list block
fills_next named name plan count blocks list block untold windows lt is spells fills =
    rw (fills.is, open_yet (length blocks) count lt) (record {
      window = is.window_is;
      there = omega (arith, is.window_is, windows);
      index = rw fills.none_before (omega (arith, is.index_is));
      spells = spells;
      told = rw untold tt;
    })

pub fills_more : {N : Type 0} (name : N) (plan : CutPlan) (count : ℕ) (blocks : List Block) (list : Listed N) (block : Block) → length blocks < count → IsNumbered 1 count (length blocks) block → Fills name plan count blocks list → Fills name plan count (blocks ++ block ∷ []) (with_block list block)
fills_more name plan count blocks list block lt is fills =
    let longer : length (blocks ++ block ∷ []) ≡ length blocks + 1 = simp length-append in
    let not_below : ltb block.window 1 ≡ false = le-ltb _ _ (omega (arith, is.window_is)) in
    record {
      is = rw (fills.is, open_yet (length blocks) count lt, longer, is.last_is) refl;
      none_before = before-append 1 blocks (block ∷ []) ∙ rw (fills.none_before, not_below) refl;
    }
