-- Rows that are kept as long as they are needed.
use Rattle.std.proofs.Common.{◌≡◌, ◌≢◌, ◌==◌, ℕ, zero, suc, ◌+◌, ◌<◌, ◌≤◌, ◌⊎◌, inl, inr, Bool, true, false, not, ◌||◌, List, [], ◌∷◌, ◌++◌, length, drop, get_or, slice_get, slice_index, Some, refl, sym, ap, ◌∙◌, subst, arith, add-one}
use Rattle.std.proofs.Math.ListN.{set}
use Rattle.std.proofs.Math.Seq.{drop-cons}
use Rattle.std.proofs.lemmas.Bool.{cases_lt, cases_eq, eq-eqb, ne_eqb}
use Rattle.std.proofs.lemmas.List.{get_or_append_left, get_or_push, length_push, get_or-set_other, drop_all}
use Rattle.std.proofs.lemmas.Option.{get_or_from_slice_get}
use Rattle.std.specs.Bool.{OnTrue}
use Rattle.std.specs.List.{flat_map, list_any}
use Rattle.apx_order.specs.Sorted.{sorted}
use Rattle.apx_tuple.specs.declared.tuple.Tuple.{Tuple}
use Rattle.apx_tuple.specs.Tuple.{bag_of}
use Rattle.apx_pass.specs.Graph.{Node}
use Rattle.apx_pass.specs.Order.{sources, stands_in}
use Rattle.apx_mean.specs.Kept.{reads_from, IsNeeded, AreKept}

or-right : (a b : Bool) → b ≡ true → (a || b) ≡ true
or-right true b e = refl
or-right false b e = e

or-left : (a b : Bool) → a ≡ true → (a || b) ≡ true
or-left true b e = refl
or-left false b e = absurd cc

or-none : (a b : Bool) → a ≡ false → (a || b) ≡ b
or-none true b e = absurd cc
or-none false b e = refl

or-assoc : (a b c : Bool) → (a || (b || c)) ≡ ((a || b) || c)
or-assoc true b c = refl
or-assoc false b c = refl

-- what stands in two lists, one behind the other
pub stands-append : (xs ys : List ℕ) (n : ℕ) → stands_in (xs ++ ys) n ≡ (stands_in xs n || stands_in ys n)
stands-append [] ys n = refl
stands-append (x ∷ xs) ys n = ap (λ b. (n == x) || b) (stands-append xs ys n) ∙ or-assoc (n == x) (stands_in xs n) (stands_in ys n)

-- the first operator of those that are left, and the others
pub reads-next : (nodes : List Node) (order : List ℕ) (k : ℕ) → k < length order → reads_from nodes order k ≡ sources nodes (slice_index order k) ++ reads_from nodes order (k + 1)
reads-next nodes order k within =
    let first : drop k order ≡ slice_index order k ∷ drop (k + 1) order = rw add-one (drop-cons order k _ within) in
    ap (flat_map (sources nodes)) first

-- none is left
pub reads-none : (nodes : List Node) (order : List ℕ) (k : ℕ) (s : ℕ) → length order ≤ k → stands_in (reads_from nodes order k) s ≡ false
reads-none nodes order k s past = let none : drop k order ≡ [] = drop_all k order past in ap (λ (xs : List ℕ). stands_in (flat_map (sources nodes) xs) s) none

-- one that doesn't read the operator is passed
pub reads-passed : (nodes : List Node) (order : List ℕ) (k s : ℕ) (b : Bool) → k < length order → stands_in (sources nodes (slice_index order k)) s ≡ false →
    stands_in (reads_from nodes order k) s ≡ b → stands_in (reads_from nodes order (k + 1)) s ≡ b
reads-passed nodes order k s b within other e =
    sym (or-none (stands_in (sources nodes (slice_index order k)) s) (stands_in (reads_from nodes order (k + 1)) s) other)
    ∙ sym (stands-append (sources nodes (slice_index order k)) (reads_from nodes order (k + 1)) s)
    ∙ ap (λ (xs : List ℕ). stands_in xs s) (sym (reads-next nodes order k within)) ∙ e

pub reads-found : (nodes : List Node) (order : List ℕ) (k s : ℕ) → k < length order → stands_in (sources nodes (slice_index order k)) s ≡ true → stands_in (reads_from nodes order k) s ≡ true
reads-found nodes order k s within among =
    ap (λ (xs : List ℕ). stands_in xs s) (reads-next nodes order k within)
    ∙ stands-append (sources nodes (slice_index order k)) (reads_from nodes order (k + 1)) s
    ∙ or-left _ (stands_in (reads_from nodes order (k + 1)) s) among

module _ (gives : ℕ → List Tuple) (order : List ℕ) (sink : ℕ) where
  -- the rows of the one that is read next are there
  pub kept-here : (source : ℕ) (rest : List ℕ) (rows : List (List Tuple)) (place : ℕ) → AreKept gives order sink (source ∷ rest) rows → place < length rows → slice_index order place ≡ source → get_or rows place [] ≡ gives source
  kept-here source rest rows place kept within named =
      let among : stands_in (source ∷ rest) (slice_index order place) ≡ true = or-left (slice_index order place == source) (stands_in rest (slice_index order place)) (eq-eqb _ _ named) in
      kept place within (inr among) ∙ ap gives named

  -- rows that were read and are left where they stand
  pub kept-copied : (source : ℕ) (rest : List ℕ) (rows : List (List Tuple)) → AreKept gives order sink (source ∷ rest) rows → AreKept gives order sink rest rows
  kept-copied source rest rows kept place within (inl is) = kept place within (inl is)
  kept-copied source rest rows kept place within (inr among) = kept place within (inr (or-right (slice_index order place == source) (stands_in rest (slice_index order place)) among))

  -- rows that were read for the last time and are taken away
  pub kept-moved : (source : ℕ) (rest : List ℕ) (rows : List (List Tuple)) (at : ℕ) → AreKept gives order sink (source ∷ rest) rows → slice_index order at ≡ source → at ≢ sink → stands_in rest source ≡ false →
      (new : List (List Tuple)) → new ≡ set rows at [] → length new ≡ length rows → AreKept gives order sink rest new
  kept-moved source rest rows at kept named other last new is long place within needed = by (cases_eq place at)
    where
      gone : (place ≡ at) → IsNeeded order sink rest place → ⊥
      gone same (inl e) = other (sym same ∙ e)
      gone same (inr e) = absurd (let none : stands_in rest (slice_index order place) ≡ false = ap (λ n. stands_in rest (slice_index order n)) same ∙ ap (stands_in rest) named ∙ last in cc)

      by : (place ≡ at) ⊎ (place ≢ at) → get_or new place [] ≡ gives (slice_index order place)
      by (inl same) = absurd (gone same needed)
      by (inr apart) =
          ap (λ (xs : List (List Tuple)). get_or xs place []) is ∙ get_or-set_other rows at place [] [] apart
          ∙ kept-copied source rest rows kept place (omega arith) needed

  -- the rows of the next operator stand behind the others
  pub kept-push : (reads : List ℕ) (rows new : List (List Tuple)) (made : List Tuple) → AreKept gives order sink reads rows → made ≡ gives (slice_index order (length rows)) → new ≡ rows ++ made ∷ [] → AreKept gives order sink reads new
  kept-push reads rows new made kept is push place within needed = by (cases_lt place (length rows))
    where
      by : (place < length rows) ⊎ (length rows ≤ place) → get_or new place [] ≡ gives (slice_index order place)
      by (inl lt) = rw (push, get_or_append_left rows (made ∷ []) [] place lt) (kept place lt needed)
      by (inr ge) =
          let at : place ≡ length rows = omega (arith, ap length push, length_push rows made) in
          rw (push, at) (rw (get_or_push rows made [] (length rows) refl) is)

-- where nobody reads them later they are read for the last time
pub last-read : (is_read later : Bool) → is_read ≡ later → OnTrue (not is_read) (later ≡ false)
last-read true later e = tt
last-read false later e = sym e

pub last-of-two : (left right : ℕ) (rest : List ℕ) (is_read : Bool) → left ≢ right → is_read ≡ stands_in rest left → OnTrue (not is_read) (stands_in (right ∷ rest) left ≡ false)
last-of-two left right rest true apart e = tt
last-of-two left right rest false apart e = rw (ne_eqb left right apart) (sym e)

pub never-last : (left right : ℕ) (P : Type 0) → left ≡ right → OnTrue (not (left == right)) P
never-last left right P e = rw (eq-eqb left right e) tt

-- ---- rows at a place

-- the default of a place that is there doesn't count
pub held-at : {X : Type 0} (xs : List X) (i : ℕ) (x d : X) → i < length xs → x ≡ get_or xs i x → x ≡ get_or xs i d
held-at [] i x d h e = absurd (omega arith)
held-at (y ∷ ys) zero x d h e = e
held-at (y ∷ ys) (suc i) x d h e = held-at ys i x d (omega arith) e

pub held-some : {X : Type 0} (xs : List X) (i : ℕ) (x d : X) → slice_get xs i ≡ Some x → x ≡ get_or xs i d
held-some xs i x d e = sym (get_or_from_slice_get xs i x d e)

-- no rows are the bag of none
pub no-rows : (tuples : List Tuple) → tuples ≡ [] → bag_of tuples ≡ []
unfolding sorted
no-rows tuples none = ap bag_of none
