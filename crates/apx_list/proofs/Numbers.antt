-- What a list keeps of its numbers, when a block is appended or windows are purged.
use Rattle.std.proofs.Common.{◌≡◌, ℕ, ◌+◌, ◌-◌, ◌^◌, ◌<◌, ◌≤◌, List, [], ◌∷◌, ◌++◌, length, refl, zero, suc, sym, ap, ◌∙◌, arith, true, false, ltb, Option, Some, slice_get, get_or, length-append, subst, inl, inr}
use Rattle.std.proofs.Math.ListN.{get_or-append}
use Rattle.std.proofs.Math.Seq.{get_or-append_seam}
use Rattle.std.specs.Prelude.{IfSome, slice_index}
use Rattle.std.proofs.lemmas.Bool.{lt-ltb, le-ltb, cases_lt}
use Rattle.apx_list.specs.declared.plan.CutPlan.{CutPlan}
use Rattle.apx_list.specs.declared.block.Block.{Block}
use Rattle.apx_list.specs.Block.{Spells, AllSpell}
use Rattle.apx_list.specs.Listed.{before, IsWithin, IsKept, AreUpTo, AreAbove}
use Rattle.apx_list.proofs.Row.{row_goes_on, row_ends, row_purged, named_more, named_rest}

pub before-append : (window : ℕ) (xs ys : List Block) → before window (xs ++ ys) ≡ before window xs + before window ys
before-append window [] ys = omega arith
before-append window (x ∷ xs) ys = omega (arith, before-append window xs ys)

pub AllSpell-append : (plan : CutPlan) (xs : List Block) (y : Block) → AllSpell plan xs → Spells plan y → AllSpell plan (xs ++ y ∷ [])
AllSpell-append plan [] y h s = (s, tt)
AllSpell-append plan (x ∷ xs) y h s = (h.0, AllSpell-append plan xs y h.1 s)

pub AllSpell-get : (plan : CutPlan) (xs : List Block) (k : ℕ) (y : Block) → AllSpell plan xs → slice_get xs k ≡ Some y → Spells plan y
AllSpell-get plan [] k y h e = absurd (cc e)
AllSpell-get plan (x ∷ xs) zero y h e = let same : x ≡ y = (cc e) in subst (λ (b : Block). Spells plan b) same h.0
AllSpell-get plan (x ∷ xs) (suc k) y h e = AllSpell-get plan xs k y h.1 e

pub AllSpell-rest : (plan : CutPlan) (xs ys : List Block) → AllSpell plan (xs ++ ys) → AllSpell plan ys
AllSpell-rest plan [] ys h = h
AllSpell-rest plan (x ∷ xs) ys h = AllSpell-rest plan xs ys h.1

-- all windows are below one that is above the highest
pub before-all : (low high window : ℕ) (xs : List Block) → IsWithin low high xs → high < window → before window xs ≡ length xs
before-all low high window [] h lt = refl
before-all low high window (x ∷ xs) h lt =
    let below : ltb x.window window ≡ true = lt-ltb _ _ (omega (arith, h.1)) in
    rw below (omega (arith, before-all x.window high window xs h.2 lt))

pub IsWithin-append : (low high : ℕ) (xs : List Block) (y : Block) → IsWithin low high xs → low ≤ high → y.window ≡ high → IsWithin low high (xs ++ y ∷ [])
IsWithin-append low high [] y h le is = (omega arith, omega arith, tt)
IsWithin-append low high (x ∷ xs) y h le is = (h.0, h.1, IsWithin-append x.window high xs y h.2 h.1 is)

pub IsWithin-higher : (low high higher : ℕ) (xs : List Block) → IsWithin low high xs → high ≤ higher → IsWithin low higher xs
IsWithin-higher low high higher [] h le = tt
IsWithin-higher low high higher (x ∷ xs) h le = (h.0, omega (arith, h.1), IsWithin-higher x.window high higher xs h.2 le)

AreUpTo-append : (to : ℕ) (xs : List Block) (y : Block) → AreUpTo to xs → y.window ≤ to → AreUpTo to (xs ++ y ∷ [])
AreUpTo-append to [] y up le = (le, tt)
AreUpTo-append to (x ∷ xs) y up le = (up.0, AreUpTo-append to xs y up.1 le)

AreUpTo-rest : (to : ℕ) (xs ys : List Block) → AreUpTo to (xs ++ ys) → AreUpTo to ys
AreUpTo-rest to [] ys up = up
AreUpTo-rest to (x ∷ xs) ys up = AreUpTo-rest to xs ys up.1

-- one block of the window after top doesn't count before that window
not_before : (top window : ℕ) (blocks : List Block) (block : Block) → block.window ≡ top + 1 → window ≤ top + 1 → before window (blocks ++ block ∷ []) ≡ before window blocks
not_before top window blocks block is le =
    let not_below : ltb block.window window ≡ false = le-ltb _ _ (omega arith) in
    before-append window blocks (block ∷ []) ∙ rw not_below (omega arith)

pub length_one : (blocks : List Block) (block : Block) → length (blocks ++ block ∷ []) ≡ length blocks + 1
length_one blocks block = simp length-append

-- a window that goes on
pub kept_in_window : (told : Option (List Block)) (plan : CutPlan) (floor top first : ℕ) (blocks : List Block) (from : ℕ) (starts : List ℕ) (next_start : ℕ) (block : Block) → IsKept told plan floor top first blocks from starts next_start → block.window ≡ top + 1 → block.window ≤ plan.windows → before (top + 1) blocks + block.index ≡ length blocks → block.index < 2 ^ 32 → Spells plan block → block.last ≡ false → IfSome told (λ all. slice_get all (first + length blocks) ≡ Some block) → IsKept told plan floor top first (blocks ++ block ∷ []) from starts next_start
kept_in_window told plan floor top first blocks from starts next_start block kept window there index fits spells goes_on named = record {
  plan_is = kept.plan_is;
  floor_below = kept.floor_below;
  top_below = kept.top_below;
  spelled = AllSpell-append plan blocks block kept.spelled spells;
  within = IsWithin-append (floor + 1) (top + 1) blocks block kept.within (omega (arith, kept.floor_below)) window;
  run = AreUpTo-append plan.windows blocks block kept.run there;
  row = row_goes_on floor top blocks block kept.row window index goes_on (not_before top (top + 1) blocks block window (omega arith));
  named = named_more told first blocks block kept.named named;
  from_below = kept.from_below;
  count = kept.count;
  start = λ w above below. kept.start w above below ∙ ap (λ n. first + n) (sym (not_before top w blocks block window (omega arith)));
  next = kept.next ∙ ap (λ n. first + n) (sym (not_before top (top + 1) blocks block window (omega arith)));
  few_finished = kept.few_finished;
  few_next = omega (arith, length_one blocks block, kept.next, index, fits);
}

at_end : (starts : List ℕ) (next_start : ℕ) (k : ℕ) → k ≡ length starts → slice_index (starts ++ next_start ∷ []) k ≡ next_start
at_end starts next_start k is = rw is (get_or-append_seam starts next_start [] 0)

start_kept : (floor top first : ℕ) (blocks : List Block) (from : ℕ) (starts : List ℕ) (next_start : ℕ) (block : Block) → block.window ≡ top + 1 → from ≤ floor → length starts + from ≡ top → ((window : ℕ) → floor < window → window ≤ top → slice_index starts (window - from - 1) ≡ first + before window blocks) → next_start ≡ first + before (top + 1) blocks → (window : ℕ) → floor < window → window ≤ top + 1 → slice_index (starts ++ next_start ∷ []) (window - from - 1) ≡ first + before window (blocks ++ block ∷ [])
start_kept floor top first blocks from starts next_start block is from_below count start next window above below =
    elim (cases_lt window (top + 1)) [
      | inl old ↦
          let inside : window - from - 1 < length starts = omega arith in
          get_or-append starts (next_start ∷ []) 0 (window - from - 1) inside ∙ start window above (omega arith) ∙ ap (λ n. first + n) (sym (not_before top window blocks block is below))
      | inr new ↦
          let same : window ≡ top + 1 = omega arith in
          at_end starts next_start (window - from - 1) (omega arith) ∙ next ∙ rw (← same) (ap (λ n. first + n) (sym (not_before top window blocks block is below)))
    ]

-- a window that ends
pub kept_at_end : (told : Option (List Block)) (plan : CutPlan) (floor top first : ℕ) (blocks : List Block) (from : ℕ) (starts : List ℕ) (next_start : ℕ) (block : Block) → IsKept told plan floor top first blocks from starts next_start → block.window ≡ top + 1 → block.window ≤ plan.windows → before (top + 1) blocks + block.index ≡ length blocks → block.index < 2 ^ 32 → Spells plan block → block.last ≡ true → IfSome told (λ all. slice_get all (first + length blocks) ≡ Some block) → IsKept told plan floor (top + 1) first (blocks ++ block ∷ []) from (starts ++ next_start ∷ []) (first + length (blocks ++ block ∷ []))
kept_at_end told plan floor top first blocks from starts next_start block kept window there index fits spells ends named =
    let inside = IsWithin-append (floor + 1) (top + 1) blocks block kept.within (omega (arith, kept.floor_below)) window in
    record {
      plan_is = kept.plan_is;
      floor_below = omega (arith, kept.floor_below);
      top_below = omega (arith, there, window);
      spelled = AllSpell-append plan blocks block kept.spelled spells;
      within = IsWithin-higher (floor + 1) (top + 1) (top + 1 + 1) (blocks ++ block ∷ []) inside (omega arith);
      run = AreUpTo-append plan.windows blocks block kept.run there;
      row = row_ends floor top blocks block kept.row window index ends (before-all (floor + 1) (top + 1) (top + 1 + 1) (blocks ++ block ∷ []) inside (omega arith));
      named = named_more told first blocks block kept.named named;
      from_below = kept.from_below;
      count = omega (arith, kept.count, length-append starts (next_start ∷ []));
      start = start_kept floor top first blocks from starts next_start block window kept.from_below kept.count kept.start kept.next;
      next = ap (λ n. first + n) (sym (before-all (floor + 1) (top + 1) (top + 1 + 1) (blocks ++ block ∷ []) inside (omega arith)));
      few_finished = omega (arith, length_one blocks block, kept.next, kept.few_finished, index, fits);
      few_next = omega arith;
    }

-- windows are purged from the front
before-gone : (to window : ℕ) (gone blocks : List Block) → AreUpTo to gone → to < window → before window (gone ++ blocks) ≡ length gone + before window blocks
before-gone to window [] blocks h lt = omega arith
before-gone to window (x ∷ gone) blocks h lt =
    let below : ltb x.window window ≡ true = lt-ltb _ _ (omega (arith, h.0)) in
    rw below (omega (arith, before-gone to window gone blocks h.1 lt))

IsWithin-rest : (low high : ℕ) (gone blocks : List Block) → IsWithin low high (gone ++ blocks) → (least : ℕ) × IsWithin least high blocks
IsWithin-rest low high [] blocks h = (low, h)
IsWithin-rest low high (x ∷ gone) blocks h = IsWithin-rest x.window high gone blocks h.2

IsWithin-front : (low high to : ℕ) (blocks : List Block) → IsWithin low high blocks → IfSome (slice_get blocks 0) (λ block. to < block.window) → IsWithin (to + 1) high blocks
IsWithin-front low high to [] h front = tt
IsWithin-front low high to (x ∷ blocks) h front = (omega (arith, front), h.1, h.2)

pub AreAbove-within : (low high to : ℕ) (blocks : List Block) → IsWithin low high blocks → to < low → AreAbove to blocks
AreAbove-within low high to [] h lt = tt
AreAbove-within low high to (x ∷ blocks) h lt = (omega (arith, h.0), AreAbove-within x.window high to blocks h.2 (omega (arith, h.0)))

pub within_rest : (low high to : ℕ) (old new gone : List Block) → IsWithin low high old → old ≡ gone ++ new → IfSome (slice_get new 0) (λ block. to < block.window) → IsWithin (to + 1) high new
within_rest low high to old new gone h split front =
    let rest = IsWithin-rest low high gone new (rw (← split) h) in
    IsWithin-front rest.0 high to new rest.1 front

pub kept_purged : (told : Option (List Block)) (plan : CutPlan) (floor top first : ℕ) (blocks : List Block) (from : ℕ) (starts : List ℕ) (next_start to : ℕ) (gone rest : List Block) → IsKept told plan floor top first blocks from starts next_start → floor ≤ to → to ≤ top → blocks ≡ gone ++ rest → AreUpTo to gone → IfSome (slice_get rest 0) (λ block. to < block.window) → IsKept told plan to top (first + length gone) rest from starts next_start
kept_purged told plan floor top first blocks from starts next_start to gone rest kept low high split are_gone front =
    let less : (window : ℕ) → to < window → before window blocks ≡ length gone + before window rest = λ window lt. rw split (before-gone to window gone rest are_gone lt) in
    record {
      plan_is = kept.plan_is;
      floor_below = high;
      top_below = kept.top_below;
      spelled = AllSpell-rest plan gone rest (rw (← split) kept.spelled);
      within = within_rest (floor + 1) (top + 1) to blocks rest gone kept.within split front;
      run = AreUpTo-rest plan.windows gone rest (rw (← split) kept.run);
      row = row_purged floor top to blocks gone rest kept.row low high split are_gone (less (top + 1) (omega arith)) front;
      named = named_rest told first blocks gone rest kept.named split;
      from_below = omega (arith, kept.from_below);
      count = kept.count;
      start = λ window above below. kept.start window (omega arith) below ∙ omega (arith, less window above);
      next = kept.next ∙ omega (arith, less (top + 1) (omega arith));
      few_finished = kept.few_finished;
      few_next = omega (arith, kept.few_next, ap length split, length-append gone rest);
    }

-- an element at its index
pub slice_get-is : {X : Type 0} (xs : List X) (k : ℕ) (x : X) → k < length xs → x ≡ get_or xs k x → slice_get xs k ≡ Some x
slice_get-is [] k x lt is = absurd (omega (arith, lt))
slice_get-is (y ∷ xs) zero x lt is = ap (λ z. Some z) (sym is)
slice_get-is (y ∷ xs) (suc k) x lt is = slice_get-is xs k x (omega (arith, lt)) is
