-- The blocks of a window, read one after the other from a list whose blocks are in order.
use Rattle.std.proofs.Common.{◌≡◌, ℕ, zero, suc, ◌+◌, ◌-◌, ◌<◌, ◌≤◌, ◌⊎◌, inl, inr, Bool, true, false, cond, ltb, ◌==◌, List, [], ◌∷◌, ◌++◌, length, drop, refl, sym, ap, subst, ◌∙◌, arith, None, Some, Err, IsTrue, slice_get}
use Rattle.std.proofs.lemmas.Option.{slice_get_past}
use Rattle.std.proofs.lemmas.Bool.{lt-ltb, le-ltb, cases_lt, eq-eqb, ne_eqb}
use Rattle.apx_tuple.specs.declared.tuple.Tuple.{Tuple}
use Rattle.apx_list.specs.declared.block.Block.{Block}
use Rattle.apx_list.specs.declared.plan.CutPlan.{CutPlan}
use Rattle.apx_list.specs.Block.{Spells}
use Rattle.apx_list.specs.Listed.{Listed, before, next_number, window_after, index_after, AreConsecutive, next_window, IsRow}
use Rattle.apx_list.specs.declared.fault.ListFault.{ListFault}
use Rattle.apx_list.specs.declared.fault.ListFault.TheVariants.{Fault, Damaged, Memory}
use Rattle.apx_list.specs.Reads.{IsRead, IsDamaged, GivesBlock}
use Rattle.apx_list.specs.Window.{SpellRest}
use Rattle.apx_held.specs.declared.held.Unnamed.{Unnamed}
use Rattle.apx_held.specs.Lent.{of_window, IsLent, IsOfList}

-- a block says what another one says, and spells it
pub record IsCopy (tells : Bool) (plan : CutPlan) (block there : Block) : Type 0 where
  pub window : block.window ≡ there.window
  pub index : block.index ≡ there.index
  pub last : block.last ≡ there.last
  pub spells : Spells plan block
  pub same : IsTrue tells → block ≡ there

-- blocks are copies of the first ones of others
abbrev pub AreCopies : Bool → CutPlan → List Block → List Block → Type 0
AreCopies tells plan [] row = Unit {0}
AreCopies tells plan (b ∷ bs) [] = ⊥
AreCopies tells plan (b ∷ bs) (r ∷ row) = IsCopy tells plan b r × AreCopies tells plan bs row

pub copies_push : (tells : Bool) (plan : CutPlan) (bs row : List Block) (b r : Block) → AreCopies tells plan bs row → slice_get row (length bs) ≡ Some r → IsCopy tells plan b r → AreCopies tells plan (bs ++ b ∷ []) row
copies_push tells plan [] [] b r copies at copy = absurd (cc at)
copies_push tells plan [] (r' ∷ row) b r copies at copy = let e : r ≡ r' = (cc at) in (subst (λ (x : Block). IsCopy tells plan b x) e copy, tt)
copies_push tells plan (b' ∷ bs) [] b r copies at copy = absurd copies
copies_push tells plan (b' ∷ bs) (r' ∷ row) b r copies at copy = (copies.0, copies_push tells plan bs row b r copies.1 at copy)

pub get_drop : (xs : List Block) (k n : ℕ) → slice_get (drop k xs) n ≡ slice_get xs (k + n)
get_drop [] zero n = slice_get_past [] n (omega arith) ∙ sym (slice_get_past [] (0 + n) (omega arith))
get_drop [] (suc k) n = slice_get_past [] n (omega arith) ∙ sym (slice_get_past [] (suc k + n) (omega arith))
get_drop (x ∷ xs) zero n = let e : n ≡ 0 + n = omega arith in ap (slice_get (x ∷ xs)) e
get_drop (x ∷ xs) (suc k) n =
    let e : suc (k + n) ≡ suc k + n = omega arith in
    get_drop xs k n ∙ ap (slice_get (x ∷ xs)) e

-- no more are before a window than there are
pub before-le : (w : ℕ) (xs : List Block) → before w xs ≤ length xs
before-le w [] = omega arith
before-le w (x ∷ xs) = by (ltb x.window w) (before-le w xs)
  where
    by : (t : Bool) → before w xs ≤ length xs → cond t 1 0 + before w xs ≤ length (x ∷ xs)
    by true h = omega arith
    by false h = omega arith

-- ---- blocks in order

-- what comes behind a block
after-true : (r : Block) → r.last ≡ true → (window_after r ≡ r.window + 1) × (index_after r ≡ 0)
after-true r e = (ap (λ (t : Bool). cond t (r.window + 1) r.window) e, ap (λ (t : Bool). cond t 0 (r.index + 1)) e)

after-false : (r : Block) → r.last ≡ false → (window_after r ≡ r.window) × (index_after r ≡ r.index + 1)
after-false r e = (ap (λ (t : Bool). cond t (r.window + 1) r.window) e, ap (λ (t : Bool). cond t 0 (r.index + 1)) e)

bool_is : (t : Bool) → (t ≡ true) ⊎ (t ≡ false)
bool_is true = inl refl
bool_is false = inr refl

after-le : (r : Block) → r.window ≤ window_after r
after-le r = elim (bool_is r.last) [ inl e ↦ omega (arith, (after-true r e).0) | inr e ↦ omega (arith, (after-false r e).0) ]

-- none is before the window of the first
none_before : (u index w : ℕ) (bs : List Block) → AreConsecutive u index bs → w ≤ u → before w bs ≡ 0
none_before u index w [] order le = refl
none_before u index w (b ∷ bs) order le =
    let not_below : ltb b.window w ≡ false = le-ltb _ _ (omega (arith, order.0)) in
    rw not_below (omega (arith, none_before (window_after b) (index_after b) w bs order.2 (omega (arith, after-le b, order.0))))

-- nor is one of an earlier window among them
none_of : (u index w : ℕ) (bs : List Block) → AreConsecutive u index bs → w < u → of_window w bs ≡ []
none_of u index w [] order lt = refl
none_of u index w (b ∷ bs) order lt =
    let other : (b.window == w) ≡ false = ne_eqb b.window w (λ e. omega (arith, e, order.0)) in
    rw other (none_of (window_after b) (index_after b) w bs order.2 (omega (arith, after-le b, order.0)))

-- from block 0 of a window on
pub record Rests (v w : ℕ) (all rest : List Block) : Type 0 where
  pub order : AreConsecutive w 0 rest
  pub reaches : next_window w rest ≡ next_window v all
  pub found : of_window w all ≡ of_window w rest
  pub count : before (w + 1) all ≡ before w all + before (w + 1) rest

-- behind a block of an earlier window comes one of an earlier window, or block 0 of this one
behind : (b : Block) (w : ℕ) → b.window < w → (window_after b ≤ w) × (window_after b ≡ w → index_after b ≡ 0)
behind b w lt = elim (bool_is b.last) [
  | inl e ↦ (omega (arith, (after-true b e).0), λ _. (after-true b e).1)
  | inr e ↦ (omega (arith, (after-false b e).0), λ f. absurd (omega (arith, (after-false b e).0, f)))
]

rest_from : (v index w : ℕ) (bs : List Block) → AreConsecutive v index bs → v ≤ w → (v ≡ w → index ≡ 0) → w ≤ next_window v bs → Rests v w bs (drop (before w bs) bs)
rest_from v index w [] order le start reaches =
    let e : v ≡ w = omega arith in
    record { order = tt; reaches = sym e; found = refl; count = refl }
rest_from v index w (b ∷ bs) order le start reaches = elim (cases_lt v w) [
  | inl lt ↦
      let below : ltb b.window w ≡ true = lt-ltb _ _ (omega (arith, order.0)) in
      let below' : ltb b.window (w + 1) ≡ true = lt-ltb _ _ (omega (arith, order.0)) in
      let other : (b.window == w) ≡ false = ne_eqb b.window w (λ e. omega (arith, e, order.0)) in
      let after = behind b w (omega (arith, order.0)) in
      let is = rest_from (window_after b) (index_after b) w bs order.2 after.0 after.1 reaches in
      let e : before w (b ∷ bs) ≡ suc (before w bs) = ap (λ (t : Bool). cond t 1 0 + before w bs) below ∙ omega arith in
      let f : before (w + 1) (b ∷ bs) ≡ suc (before (w + 1) bs) = ap (λ (t : Bool). cond t 1 0 + before (w + 1) bs) below' ∙ omega arith in
      let found : of_window w (b ∷ bs) ≡ of_window w bs = ap (λ (t : Bool). cond t (b ∷ of_window w bs) (of_window w bs)) other in
      subst (λ (k : ℕ). Rests v w (b ∷ bs) (drop k (b ∷ bs))) (sym e)
      (record { order = is.order; reaches = is.reaches; found = found ∙ is.found; count = omega (arith, is.count, e, f) })
  | inr ge ↦
      let e : v ≡ w = omega (arith, ge, le) in
      let none : before w (b ∷ bs) ≡ 0 = none_before v index w (b ∷ bs) order (omega (arith, e)) in
      subst (λ (k : ℕ). Rests v w (b ∷ bs) (drop k (b ∷ bs))) (sym none)
      (record {
        order = subst (λ (k : ℕ). AreConsecutive w k (b ∷ bs)) (start e) (subst (λ (k : ℕ). AreConsecutive k index (b ∷ bs)) e order);
        reaches = refl;
        found = refl;
        count = omega (arith, none);
      })
]

-- ---- copies of a window's blocks

pub record Window (tells : Bool) (plan : CutPlan) (w index : ℕ) (bs row : List Block) : Type 0 where
  pub tuples : List Tuple
  pub whole : SpellRest plan w index bs tuples
  pub same : IsTrue tells → bs ≡ of_window w row

window_from : (tells : Bool) (plan : CutPlan) (w index : ℕ) (bs row : List Block) → AreConsecutive w index row → w + 1 ≤ next_window w row → AreCopies tells plan bs row → length bs ≡ before (w + 1) row → Window tells plan w index bs row
window_from tells plan w index bs [] order reaches copies count = let h : w + 1 ≤ w = reaches in absurd (omega (arith, h))
window_from tells plan w index [] (r ∷ row) order reaches copies count =
    let below : ltb r.window (w + 1) ≡ true = lt-ltb _ _ (omega (arith, order.0)) in
    let e : 0 ≡ 1 + before (w + 1) row = count ∙ ap (λ (t : Bool). cond t 1 0 + before (w + 1) row) below in
    absurd (omega (arith, e))
window_from tells plan w index (b ∷ bs) (r ∷ row) order reaches copies count =
    by r.last refl bs (omega (arith, fewer)) (λ order' reaches'. window_from tells plan w (index + 1) bs row order' reaches' copies.1 (omega (arith, fewer)))
  where
    below : ltb r.window (w + 1) ≡ true
    below = lt-ltb _ _ (omega (arith, order.0))

    this : (r.window == w) ≡ true
    this = eq-eqb r.window w order.0

    fewer : suc (length bs) ≡ 1 + before (w + 1) row
    fewer = count ∙ ap (λ (t : Bool). cond t 1 0 + before (w + 1) row) below

    marks : (t : Bool) → r.last ≡ t → (b.window ≡ w) × (b.index ≡ index) × (b.last ≡ t)
    marks t e = (copies.0.window ∙ order.0, copies.0.index ∙ order.1, copies.0.last ∙ e)

    joined : r.last ≡ false → (more : List Block) → Window tells plan w (index + 1) more row → Window tells plan w index (b ∷ more) (r ∷ row)
    joined e [] rest = absurd rest.whole
    joined e (b' ∷ more) rest = record {
      tuples = copies.0.spells.tuples ++ rest.tuples;
      whole = (marks false e, copies.0.spells, rest.tuples, refl, rest.whole);
      same = λ t. rw this (ap (λ (x : Block). x ∷ (b' ∷ more)) (copies.0.same t) ∙ ap (λ (xs : List Block). r ∷ xs) (rest.same t));
    }

    by : (t : Bool) → r.last ≡ t → (more : List Block) → length more ≡ before (w + 1) row
        → (AreConsecutive w (index + 1) row → w + 1 ≤ next_window w row → Window tells plan w (index + 1) more row) → Window tells plan w index (b ∷ more) (r ∷ row)
    by true e [] n rest = record {
      tuples = copies.0.spells.tuples;
      whole = (marks true e, copies.0.spells, refl);
      same = λ t. rw this (ap (λ (x : Block). x ∷ []) (copies.0.same t)
          ∙ ap (λ (xs : List Block). r ∷ xs) (sym (none_of (window_after r) (index_after r) w row order.2 (omega (arith, (after-true r e).0, order.0)))));
    }
    by true e (b' ∷ more) n rest =
        let none : before (w + 1) row ≡ 0 = none_before (window_after r) (index_after r) (w + 1) row order.2 (omega (arith, (after-true r e).0, order.0)) in
        absurd (omega (arith, n, none))
    by false e more n rest =
        let at_window : window_after r ≡ w = (after-false r e).0 ∙ order.0 in
        let at_index : index_after r ≡ index + 1 = (after-false r e).1 ∙ ap (λ (k : ℕ). k + 1) order.1 in
        let order' : AreConsecutive w (index + 1) row = subst (λ (k : ℕ). AreConsecutive w k row) at_index (subst (λ (k : ℕ). AreConsecutive k (index_after r) row) at_window order.2) in
        let reaches' : w + 1 ≤ next_window w row = subst (λ (k : ℕ). w + 1 ≤ next_window k row) at_window reaches in
        joined e more (rest order' reaches')

-- copies of all blocks from a window's start to its end are the window's
pub lent_of : (tells : Bool) (list : Listed Unnamed) (w : ℕ) (bs : List Block) → IsRow list.floor list.top list.blocks → list.floor < w → w ≤ list.top
    → AreCopies tells list.plan bs (drop (before w list.blocks) list.blocks) → before w list.blocks + length bs ≡ before (w + 1) list.blocks → IsLent tells w list bs
lent_of tells list w bs row low high copies count =
    let rest = rest_from (list.floor + 1) 0 w list.blocks row.order (omega arith) (λ _. refl) (omega (arith, row.window)) in
    let is = window_from tells list.plan w 0 bs (drop (before w list.blocks) list.blocks) rest.order (omega (arith, rest.reaches, row.window)) copies (omega (arith, count, rest.count)) in
    record { tuples = is.tuples; whole = is.whole; same = λ t. is.same t ∙ sym rest.found }

-- ---- a list is read

-- no fewer are before the window after
before-more : (w : ℕ) (xs : List Block) → before w xs ≤ before (w + 1) xs
before-more w [] = omega arith
before-more w (x ∷ xs) = elim (cases_lt x.window w) [
  | inl lt ↦
      let a : ltb x.window w ≡ true = lt-ltb _ _ lt in
      let b : ltb x.window (w + 1) ≡ true = lt-ltb _ _ (omega (arith, lt)) in
      let e = ap (λ (t : Bool). cond t 1 0 + before w xs) a in
      let f = ap (λ (t : Bool). cond t 1 0 + before (w + 1) xs) b in
      omega (arith, e, f, before-more w xs)
  | inr ge ↦
      let a : ltb x.window w ≡ false = le-ltb _ _ ge in
      let e = ap (λ (t : Bool). cond t 1 0 + before w xs) a in
      omega (arith, e, before-more w xs)
]

-- a window's end is behind its start
pub start_before : (list : Listed Unnamed) (w from to : ℕ) → from ≡ list.first + before w list.blocks → to ≡ list.first + before (w + 1) list.blocks → from ≤ to
start_before list w from to start end = omega (arith, start, end, before-more w list.blocks)

-- what stands before a window's end is there
pub place_there : (list : Listed Unnamed) (w to place : ℕ) → to ≡ list.first + before (w + 1) list.blocks → place < to → place < next_number list
place_there list w to place end lt = omega (arith, end, lt, before-le (w + 1) list.blocks)

-- one block more is read
pub copies_more : (tells : Bool) (list : Listed Unnamed) (w from place : ℕ) (bs : List Block) (block : Block) → AreCopies tells list.plan bs (drop (before w list.blocks) list.blocks)
    → from ≡ list.first + before w list.blocks → from + length bs ≡ place → IsRead tells None list place block → AreCopies tells list.plan (bs ++ block ∷ []) (drop (before w list.blocks) list.blocks)
copies_more tells list w from place bs block copies start count read =
    let at : before w list.blocks + length bs ≡ place - list.first = omega (arith, start, count) in
    let there : slice_get (drop (before w list.blocks) list.blocks) (length bs) ≡ Some read.marks.there = get_drop list.blocks (before w list.blocks) (length bs) ∙ ap (slice_get list.blocks) at ∙ read.marks.is in
    copies_push tells list.plan bs (drop (before w list.blocks) list.blocks) block read.marks.there copies there (record {
      window = read.marks.window;
      index = read.marks.index;
      last = read.marks.last;
      spells = read.spells;
      same = λ t. (let e : Some block ≡ Some read.marks.there = sym (read.same t) ∙ read.marks.is in let same : block ≡ read.marks.there = (cc e) in same);
    })

-- all of them are
pub lent_end : (tells : Bool) (list : Listed Unnamed) (w from to : ℕ) (bs : List Block) → IsRow list.floor list.top list.blocks → list.floor < w → w ≤ list.top → from ≡ list.first + before w list.blocks
    → to ≡ list.first + before (w + 1) list.blocks → AreCopies tells list.plan bs (drop (before w list.blocks) list.blocks) → from + length bs ≡ to → IsLent tells w list bs
lent_end tells list w from to bs row low high start end copies count = lent_of tells list w bs row low high copies (omega (arith, start, end, count))

-- why no block was read
pub of_list : {F : Type 0} (tells : Bool) (list : Listed Unnamed) (place : ℕ) (fault : ListFault F) → GivesBlock tells None list place (Err fault) → IsOfList tells list fault
of_list tells list place Memory given = tt
of_list tells list place (Fault fault) given = tt
of_list tells list place (Damaged number window index last bytes) given =
    subst (λ (k : ℕ). IsDamaged tells list k (record { window = window; index = index; last = last; bytes = bytes.items })) (sym given.0) given.1
