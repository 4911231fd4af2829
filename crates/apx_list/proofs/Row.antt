-- Blocks in order, and those that a name tells, when a block is appended or windows are purged.
use Rattle.std.proofs.Common.{◌≡◌, ℕ, zero, suc, ◌+◌, ◌-◌, ◌<◌, ◌≤◌, List, [], ◌∷◌, ◌++◌, length, refl, sym, ap, subst, ◌∙◌, arith, Bool, true, false, cond, Option, Some, None, slice_get, inl, inr, length-append}
use Rattle.std.specs.Prelude.{IfSome}
use Rattle.std.proofs.lemmas.Bool.{cases_lt}
use Rattle.std.proofs.lemmas.Option.{slice_get_within}
use Rattle.apx_list.specs.declared.block.Block.{Block}
use Rattle.apx_list.specs.Listed.{before, AreUpTo, window_after, index_after, AreConsecutive, next_window, next_index, IsRow, AreNamed}

AreConsecutive-append : (window index : ℕ) (xs : List Block) (y : Block) → AreConsecutive window index xs → y.window ≡ next_window window xs → y.index ≡ next_index index xs → AreConsecutive window index (xs ++ y ∷ [])
AreConsecutive-append window index [] y order w i = (w, i, tt)
AreConsecutive-append window index (x ∷ xs) y order w i = (order.0, order.1, AreConsecutive-append (window_after x) (index_after x) xs y order.2 w i)

next_window-append : (window : ℕ) (xs : List Block) (y : Block) → next_window window (xs ++ y ∷ []) ≡ window_after y
next_window-append window [] y = refl
next_window-append window (x ∷ xs) y = next_window-append (window_after x) xs y

next_index-append : (index : ℕ) (xs : List Block) (y : Block) → next_index index (xs ++ y ∷ []) ≡ index_after y
next_index-append index [] y = refl
next_index-append index (x ∷ xs) y = next_index-append (index_after x) xs y

-- the index of the next block of the window after top
at_index : (floor top index : ℕ) (blocks : List Block) → IsRow floor top blocks → before (top + 1) blocks + index ≡ length blocks → index ≡ next_index 0 blocks
at_index floor top index blocks row is = omega (arith, row.index, is)

-- a window that goes on
pub row_goes_on : (floor top : ℕ) (blocks : List Block) (block : Block) → IsRow floor top blocks → block.window ≡ top + 1 → before (top + 1) blocks + block.index ≡ length blocks → block.last ≡ false → before (top + 1) (blocks ++ block ∷ []) ≡ before (top + 1) blocks → IsRow floor top (blocks ++ block ∷ [])
row_goes_on floor top blocks block row window index last same =
    let after : index_after block ≡ block.index + 1 = ap (λ (b : Bool). cond b 0 (block.index + 1)) last in
    let in_window : window_after block ≡ block.window = ap (λ (b : Bool). cond b (block.window + 1) block.window) last in
    record {
      order = AreConsecutive-append (floor + 1) 0 blocks block row.order (window ∙ sym row.window) (at_index floor top block.index blocks row index);
      window = next_window-append (floor + 1) blocks block ∙ (in_window ∙ window);
      index = omega (arith, same, next_index-append 0 blocks block, after, index, length-append blocks (block ∷ []));
    }

-- a window that ends
pub row_ends : (floor top : ℕ) (blocks : List Block) (block : Block) → IsRow floor top blocks → block.window ≡ top + 1 → before (top + 1) blocks + block.index ≡ length blocks → block.last ≡ true → before (top + 1 + 1) (blocks ++ block ∷ []) ≡ length (blocks ++ block ∷ []) → IsRow floor (top + 1) (blocks ++ block ∷ [])
row_ends floor top blocks block row window index last all =
    let after : index_after block ≡ 0 = ap (λ (b : Bool). cond b 0 (block.index + 1)) last in
    let in_window : window_after block ≡ block.window + 1 = ap (λ (b : Bool). cond b (block.window + 1) block.window) last in
    record {
      order = AreConsecutive-append (floor + 1) 0 blocks block row.order (window ∙ sym row.window) (at_index floor top block.index blocks row index);
      window = next_window-append (floor + 1) blocks block ∙ (in_window ∙ ap (λ n. n + 1) window);
      index = omega (arith, all, next_index-append 0 blocks block, after);
    }

-- what comes behind a block of a window up to one
after_gone : (last : Bool) (window index to : ℕ) → window ≤ to → (cond last (window + 1) window ≤ to + 1) × (cond last (window + 1) window ≡ to + 1 → cond last 0 (index + 1) ≡ 0)
after_gone true window index to le = (omega arith, λ _. refl)
after_gone false window index to le = (omega arith, λ e. absurd (omega (arith, e, le)))

-- what is left behind the windows up to one
record IsRest (to window index : ℕ) (all rest : List Block) : Type 0 where
  pub order : AreConsecutive (to + 1) 0 rest
  pub window_is : next_window (to + 1) rest ≡ next_window window all
  pub index_is : next_index 0 rest ≡ next_index index all

rest_of : (window index to : ℕ) (gone rest : List Block) → AreConsecutive window index (gone ++ rest) → AreUpTo to gone → window ≤ to + 1 → (window ≡ to + 1 → index ≡ 0) → to + 1 ≤ next_window window (gone ++ rest) → IfSome (slice_get rest 0) (λ block. to < block.window) → IsRest to window index (gone ++ rest) rest
rest_of window index to [] [] order up le start reaches front =
    let e : window ≡ to + 1 = omega (arith, le, reaches) in
    record { order = tt; window_is = sym e; index_is = sym (start e) }
rest_of window index to [] (b ∷ rest) order up le start reaches front =
    let e : window ≡ to + 1 = omega (arith, le, order.0, front) in
    record { order = (order.0 ∙ e, order.1 ∙ start e, order.2); window_is = refl; index_is = refl }
rest_of window index to (g ∷ gone) rest order up le start reaches front =
    let after = after_gone g.last g.window g.index to up.0 in
    let is = rest_of (window_after g) (index_after g) to gone rest order.2 up.1 after.0 after.1 reaches front in
    record { order = is.order; window_is = is.window_is; index_is = is.index_is }

pub row_purged : (floor top to : ℕ) (blocks gone rest : List Block) → IsRow floor top blocks → floor ≤ to → to ≤ top → blocks ≡ gone ++ rest → AreUpTo to gone → before (top + 1) blocks ≡ length gone + before (top + 1) rest → IfSome (slice_get rest 0) (λ block. to < block.window) → IsRow to top rest
row_purged floor top to blocks gone rest row low high split up fewer front =
    let reaches : to + 1 ≤ next_window (floor + 1) (gone ++ rest) = omega (arith, row.window, ap (next_window (floor + 1)) split, high) in
    let is = rest_of (floor + 1) 0 to gone rest (subst (AreConsecutive (floor + 1) 0) split row.order) up (omega (arith, low)) (λ _. refl) reaches front in
    record {
      order = is.order;
      window = is.window_is ∙ (ap (next_window (floor + 1)) (sym split) ∙ row.window);
      index = omega (arith, fewer, row.index, is.index_is, ap (next_index 0) split, ap length split, length-append gone rest);
    }

-- ---- what the name tells

-- a member behind others
slice_get-behind : (gone rest : List Block) (k : ℕ) → slice_get (gone ++ rest) (length gone + k) ≡ slice_get rest k
slice_get-behind [] rest k = let e : 0 + k ≡ k = omega arith in ap (slice_get rest) e
slice_get-behind (x ∷ gone) rest k =
    let e : length (x ∷ gone) + k ≡ suc (length gone + k) = omega arith in
    ap (slice_get (x ∷ (gone ++ rest))) e ∙ slice_get-behind gone rest k

-- a member in front of others
slice_get-front : (xs ys : List Block) (k : ℕ) → k < length xs → slice_get (xs ++ ys) k ≡ slice_get xs k
slice_get-front [] ys k lt = absurd (omega (arith, lt))
slice_get-front (x ∷ xs) ys zero lt = refl
slice_get-front (x ∷ xs) ys (suc k) lt = slice_get-front xs ys k (omega (arith, lt))

pub named_more : (told : Option (List Block)) (first : ℕ) (blocks : List Block) (block : Block) → IfSome told (λ all. AreNamed all first blocks) → IfSome told (λ all. slice_get all (first + length blocks) ≡ Some block) → IfSome told (λ all. AreNamed all first (blocks ++ block ∷ []))
named_more None first blocks block named next = tt
named_more (Some all) first blocks block named next = λ k lt.
    elim (cases_lt k (length blocks)) [
      | inl front ↦ named k front ∙ sym (slice_get-front blocks (block ∷ []) k front)
      | inr behind ↦
          let e : k ≡ length blocks + 0 = omega (arith, lt, behind, length-append blocks (block ∷ [])) in
          let f : first + k ≡ first + length blocks = omega (arith, e) in
          ap (slice_get all) f ∙ (next ∙ sym (ap (slice_get (blocks ++ block ∷ [])) e ∙ slice_get-behind blocks (block ∷ []) 0))
    ]

pub named_rest : (told : Option (List Block)) (first : ℕ) (blocks gone rest : List Block) → IfSome told (λ all. AreNamed all first blocks) → blocks ≡ gone ++ rest → IfSome told (λ all. AreNamed all (first + length gone) rest)
named_rest None first blocks gone rest named split = tt
named_rest (Some all) first blocks gone rest named split = λ k lt.
    let there : length gone + k < length blocks = omega (arith, lt, ap length split, length-append gone rest) in
    let e : (first + length gone) + k ≡ first + (length gone + k) = omega arith in
    ap (slice_get all) e ∙ (named (length gone + k) there ∙ (ap (λ (bs : List Block). slice_get bs (length gone + k)) split ∙ slice_get-behind gone rest k))

-- the block at a place is the one that the name tells there
pub named_at : (told : Option (List Block)) (first place : ℕ) (blocks : List Block) (block : Block) → first ≤ place → slice_get blocks (place - first) ≡ Some block → IfSome told (λ all. AreNamed all first blocks) → IfSome told (λ all. slice_get all place ≡ Some block)
named_at None first place blocks block le is named = tt
named_at (Some all) first place blocks block le is named =
    let e : first + (place - first) ≡ place = omega arith in
    subst (λ n. slice_get all n ≡ Some block) e (named (place - first) (slice_get_within blocks (place - first) block is) ∙ is)
