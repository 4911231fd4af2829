-- The blocks of windows as they stand in a list: which windows they are of, what a purge leaves, what a window adds.
use Rattle.std.proofs.Common.{◌≡◌, ℕ, zero, suc, ◌+◌, ◌<◌, ◌≤◌, inl, inr, Bool, true, false, cond, ltb, List, [], ◌∷◌, ◌++◌, length, drop, refl, sym, ap, subst, ◌∙◌, arith, append_assoc, length-append}
use Rattle.std.proofs.lemmas.Bool.{lt-ltb, le-ltb, cases_lt}
use Rattle.std.proofs.Math.Seq.{drop-append_seam}
use Rattle.std.proofs.lemmas.List.{append-nil}
use Rattle.apx_tuple.specs.declared.tuple.Tuple.{Tuple}
use Rattle.apx_list.specs.declared.block.Block.{Block}
use Rattle.apx_list.specs.declared.plan.CutPlan.{CutPlan}
use Rattle.apx_list.specs.Cut.{numbered, blocks_of}
use Rattle.apx_list.specs.Listed.{Listed, before, AreUpTo, AreAbove, IsPurged, with_block}
use Rattle.apx_list.specs.Window.{SpellRest, SpellWindow}
use Rattle.apx_pass.specs.Job.{Job}
use Rattle.apx_held.specs.declared.held.Unnamed.{Unnamed}
use Rattle.apx_held.specs.Holding.{with_blocks, without, AreNext}
use Rattle.apx_held.specs.Partition.{blocks_at, blocks_above}

-- ---- windows up to one, and above it

pub up_append : (w : ℕ) (xs ys : List Block) → AreUpTo w xs → AreUpTo w ys → AreUpTo w (xs ++ ys)
up_append w [] ys h k = k
up_append w (x ∷ xs) ys h k = (h.0, up_append w xs ys h.1 k)

pub up_higher : (v w : ℕ) (xs : List Block) → v ≤ w → AreUpTo v xs → AreUpTo w xs
up_higher v w [] le h = tt
up_higher v w (x ∷ xs) le h = (omega (arith, h.0), up_higher v w xs le h.1)

pub above_append : (w : ℕ) (xs ys : List Block) → AreAbove w xs → AreAbove w ys → AreAbove w (xs ++ ys)
above_append w [] ys h k = k
above_append w (x ∷ xs) ys h k = (h.0, above_append w xs ys h.1 k)

pub above_lower : (v w : ℕ) (xs : List Block) → v ≤ w → AreAbove w xs → AreAbove v xs
above_lower v w [] le h = tt
above_lower v w (x ∷ xs) le h = (omega (arith, h.0), above_lower v w xs le h.1)

pub before_append : (w : ℕ) (xs ys : List Block) → before w (xs ++ ys) ≡ before w xs + before w ys
before_append w [] ys = omega arith
before_append w (x ∷ xs) ys = omega (arith, before_append w xs ys)

pub up_drop : (w k : ℕ) (xs : List Block) → AreUpTo w xs → AreUpTo w (drop k xs)
up_drop w zero xs h = h
up_drop w (suc k) [] h = tt
up_drop w (suc k) (x ∷ xs) h = up_drop w k xs h.1

-- all are before the window after
pub before_up : (w : ℕ) (xs : List Block) → AreUpTo w xs → before (w + 1) xs ≡ length xs
before_up w [] h = refl
before_up w (x ∷ xs) h =
    let below : ltb x.window (w + 1) ≡ true = lt-ltb _ _ (omega (arith, h.0)) in
    rw below (omega (arith, before_up w xs h.1))

-- none is before a window that they are above
pub before_above : (v w : ℕ) (xs : List Block) → w ≤ v + 1 → AreAbove v xs → before w xs ≡ 0
before_above v w [] le h = refl
before_above v w (x ∷ xs) le h =
    let not_below : ltb x.window w ≡ false = le-ltb _ _ (omega (arith, h.0)) in
    rw not_below (omega (arith, before_above v w xs le h.1))

-- what is left where the windows up to one are dropped
pub drop_gone : (to : ℕ) (gone rest : List Block) → AreUpTo to gone → AreAbove to rest → drop (before (to + 1) (gone ++ rest)) (gone ++ rest) ≡ rest
drop_gone to gone rest up above =
    let e : before (to + 1) (gone ++ rest) ≡ length gone = omega (arith, before_append (to + 1) gone rest, before_up to gone up, before_above to (to + 1) rest (omega arith) above) in
    ap (λ (k : ℕ). drop k (gone ++ rest)) e ∙ drop-append_seam gone rest

-- what a purge leaves of a list
pub purged_list : (old new : Listed Unnamed) (to : ℕ) → IsPurged old new to → new ≡ without to old
purged_list old new to less =
    let e : before (to + 1) old.blocks ≡ length less.gone = ap (before (to + 1)) less.split ∙ omega (arith, before_append (to + 1) less.gone new.blocks, before_up to less.gone less.are_gone, before_above to (to + 1) new.blocks (omega arith) less.are_kept) in
    let first : new.first ≡ old.first + before (to + 1) old.blocks = less.first ∙ ap (λ (k : ℕ). old.first + k) (sym e) in
    let blocks : new.blocks ≡ drop (before (to + 1) old.blocks) old.blocks = sym (ap (λ (k : ℕ). drop k old.blocks) e ∙ ap (drop (length less.gone)) less.split ∙ drop-append_seam less.gone new.blocks) in
    λ k. record { name = less.name k; plan = less.plan k; floor = less.floor k; top = less.top k; first = first k; blocks = blocks k }

-- ---- the blocks of a partition

numbered_up : (w count index : ℕ) (pieces : List (List ℕ)) → AreUpTo w (numbered w count index pieces)
numbered_up w count index [] = tt
numbered_up w count index (piece ∷ pieces) = (omega arith, numbered_up w count (index + 1) pieces)

numbered_above : (v w count index : ℕ) (pieces : List (List ℕ)) → v < w → AreAbove v (numbered w count index pieces)
numbered_above v w count index [] lt = tt
numbered_above v w count index (piece ∷ pieces) lt = (lt, numbered_above v w count (index + 1) pieces lt)

module _ (job : Job) (o b i : ℕ) where
  at_up : (w : ℕ) → AreUpTo w (blocks_at job o b i w)
  unfolding blocks_at blocks_of
  at_up w = numbered_up w _ 0 _

  at_above : (v w : ℕ) → v < w → AreAbove v (blocks_at job o b i w)
  unfolding blocks_at blocks_of
  at_above v w lt = numbered_above v w _ 0 _ lt

  pub above_next : (floor top : ℕ) → floor ≤ top → blocks_above job o b i floor (suc top) ≡ blocks_above job o b i floor top ++ blocks_at job o b i (suc top)
  unfolding blocks_above
  above_next floor top le = ap (λ (t : Bool). cond t (blocks_above job o b i floor top ++ blocks_at job o b i (suc top)) []) (lt-ltb floor (suc top) (omega arith))

  pub above_none : (floor top : ℕ) → top ≤ floor → blocks_above job o b i floor top ≡ []
  unfolding blocks_above
  above_none floor zero le = refl
  above_none floor (suc top) le = ap (λ (t : Bool). cond t (blocks_above job o b i floor top ++ blocks_at job o b i (suc top)) []) (le-ltb floor (suc top) le)

  pub above_split : (floor mid top : ℕ) → floor ≤ mid → mid ≤ top → blocks_above job o b i floor top ≡ blocks_above job o b i floor mid ++ blocks_above job o b i mid top
  above_split floor mid zero low high =
      let e : mid ≡ 0 = omega arith in
      sym (subst (λ (k : ℕ). blocks_above job o b i floor k ++ blocks_above job o b i k 0 ≡ blocks_above job o b i floor 0) (sym e)
      (ap (λ (bs : List Block). blocks_above job o b i floor 0 ++ bs) (above_none 0 0 (omega arith)) ∙ append-nil _))
  above_split floor mid (suc top) low high = elim (cases_lt mid (suc top)) [
    | inl lt ↦ above_next floor top (omega arith)
        ∙ ap (λ (bs : List Block). bs ++ blocks_at job o b i (suc top)) (above_split floor mid top low (omega arith))
        ∙ append_assoc (blocks_above job o b i floor mid) (blocks_above job o b i mid top) (blocks_at job o b i (suc top))
        ∙ ap (λ (bs : List Block). blocks_above job o b i floor mid ++ bs) (sym (above_next mid top (omega arith)))
    | inr ge ↦
        let e : mid ≡ suc top = omega arith in
        sym (subst (λ (k : ℕ). blocks_above job o b i floor k ++ blocks_above job o b i k (suc top) ≡ blocks_above job o b i floor (suc top)) (sym e)
        (ap (λ (bs : List Block). blocks_above job o b i floor (suc top) ++ bs) (above_none (suc top) (suc top) (omega arith)) ∙ append-nil _))
  ]

  pub above_up : (floor top : ℕ) → AreUpTo top (blocks_above job o b i floor top)
  unfolding blocks_above
  above_up floor zero = tt
  above_up floor (suc top) = by (ltb floor (suc top)) (up_append (suc top) _ _ (up_higher top (suc top) _ (omega arith) (above_up floor top)) (at_up (suc top)))
    where
      by : (t : Bool) → AreUpTo (suc top) (blocks_above job o b i floor top ++ blocks_at job o b i (suc top)) → AreUpTo (suc top) (cond t (blocks_above job o b i floor top ++ blocks_at job o b i (suc top)) [])
      by true h = h
      by false h = tt

  pub above_above : (floor top : ℕ) → AreAbove floor (blocks_above job o b i floor top)
  above_above floor zero = subst (λ (bs : List Block). AreAbove floor bs) (sym (above_none floor 0 (omega arith))) tt
  above_above floor (suc top) = elim (cases_lt floor (suc top)) [
    | inl lt ↦ subst (λ (bs : List Block). AreAbove floor bs) (sym (above_next floor top (omega arith)))
        (above_append floor _ _ (above_above floor top) (at_above floor (suc top) lt))
    | inr ge ↦ subst (λ (bs : List Block). AreAbove floor bs) (sym (above_none floor (suc top) ge)) tt
  ]

-- ---- a window's blocks appended

-- what the blocks of a window leave of a list to which they are appended
pub record Takes (list : Listed Unnamed) (blocks : List Block) : Type 0 where
  pub next : AreNext list blocks
  pub all : with_blocks list blocks ≡ record list { top = list.top + 1; blocks = list.blocks ++ blocks }

takes_from : (blocks : List Block) (list : Listed Unnamed) (index : ℕ) (tuples : List Tuple) → SpellRest list.plan (list.top + 1) index blocks tuples → list.top + 1 ≤ list.plan.windows
    → before (list.top + 1) list.blocks + index ≡ length list.blocks → Takes list blocks
takes_from [] list index tuples spell there at = absurd spell
takes_from (b ∷ []) list index tuples spell there at = record {
  next = (record { window = spell.0.0; there = omega (arith, spell.0.0); index = omega (arith, spell.0.1); spells = spell.1; told = tt }, tt);
  all = ap (λ (t : Bool). record list { top = cond t (list.top + 1) list.top; blocks = list.blocks ++ b ∷ [] }) spell.0.2;
}
takes_from (b ∷ next ∷ blocks) list index tuples spell there at =
    let l : Listed Unnamed = record list { blocks = list.blocks ++ b ∷ [] } in
    let e : with_block list b ≡ l = ap (λ (t : Bool). record list { top = cond t (list.top + 1) list.top; blocks = list.blocks ++ b ∷ [] }) spell.0.2 in
    let not_below : ltb b.window (list.top + 1) ≡ false = le-ltb _ _ (omega (arith, spell.0.0)) in
    let same : before (list.top + 1) (list.blocks ++ b ∷ []) ≡ before (list.top + 1) list.blocks = before_append (list.top + 1) list.blocks (b ∷ []) ∙ rw not_below (omega arith) in
    let rest = takes_from (next ∷ blocks) l (index + 1) spell.2 spell.4 there (omega (arith, at, same, length-append list.blocks (b ∷ []))) in
    record {
      next = (record { window = spell.0.0; there = omega (arith, spell.0.0); index = omega (arith, spell.0.1); spells = spell.1; told = tt }, subst (λ (k : Listed Unnamed). AreNext k (next ∷ blocks)) (sym e) rest.next);
      all = ap (λ (k : Listed Unnamed). with_blocks k (next ∷ blocks)) e ∙ rest.all
          ∙ ap (λ (bs : List Block). record list { top = list.top + 1; blocks = bs }) (append_assoc list.blocks (b ∷ []) (next ∷ blocks));
    }

pub takes_window : (list : Listed Unnamed) (blocks : List Block) (tuples : List Tuple) → SpellWindow list.plan (list.top + 1) blocks tuples → list.top + 1 ≤ list.plan.windows
    → AreUpTo list.top list.blocks → Takes list blocks
takes_window list blocks tuples spell there whole = takes_from blocks list 0 tuples spell there (omega (arith, before_up list.top list.blocks whole))

-- the blocks of a window are of it
pub window_up : (plan : CutPlan) (w index : ℕ) (blocks : List Block) (tuples : List Tuple) → SpellRest plan w index blocks tuples → AreUpTo w blocks
window_up plan w index [] tuples spell = tt
window_up plan w index (b ∷ []) tuples spell = (omega (arith, spell.0.0), tt)
window_up plan w index (b ∷ next ∷ blocks) tuples spell = (omega (arith, spell.0.0), window_up plan w (index + 1) (next ∷ blocks) spell.2 spell.4)
