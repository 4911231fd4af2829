-- Writing rows one behind the other.
use Rattle.std.proofs.Common.{◌≡◌, ℕ, zero, suc, ◌+◌, ◌<◌, List, [], ◌∷◌, ◌++◌, length, map, drop, get_or, refl, sym, ap, subst, ◌∙◌, append_assoc, arith}
use Rattle.std.specs.List.{flat_map}
use Rattle.std.proofs.lemmas.List.Concat.{flat_map-cons}
use Rattle.apx_tuple.specs.declared.tuple.Tuple.{Tuple}
use Rattle.apx_tuple.specs.State.{Pair}
use Rattle.apx_statebytes.specs.Rows.{row_of, IsRow, AreRows}
use Rattle.apx_statebytes.specs.Spelling.{row_spelling}

-- one row is written, and the others are left
pub row_written : (into more text : List ℕ) (row : Pair) (rows rest : List Pair) → rows ≡ row ∷ rest → more ≡ into ++ row_spelling row → into ++ flat_map row_spelling rows ≡ text → more ++ flat_map row_spelling rest ≡ text
row_written into more text row rows rest taken is so_far =
    ap (λ (x : List ℕ). x ++ flat_map row_spelling rest) is
    ∙ (append_assoc into (row_spelling row) (flat_map row_spelling rest)
    ∙ (ap (λ (x : List ℕ). into ++ x) (sym (flat_map-cons row_spelling row rest))
    ∙ (ap (λ (rs : List Pair). into ++ flat_map row_spelling rs) (sym taken) ∙ so_far)))

pub row_fits : (P : Type 0) (row : Pair) (rows rest : List Pair) → rows ≡ row ∷ rest → IsRow row → (AreRows rows → P) → AreRows rest → P
row_fits P row rows rest taken fits so_far others = so_far (subst AreRows (sym taken) (fits, others))

drop-at : (tuples : List Tuple) (i : ℕ) (t : Tuple) → i < length tuples → t ≡ get_or tuples i t → drop i tuples ≡ t ∷ drop (i + 1) tuples
drop-at [] i t lt is = absurd (omega (arith, lt))
drop-at (x ∷ tuples) zero t lt is = ap (λ (y : Tuple). y ∷ tuples) (sym is)
drop-at (x ∷ tuples) (suc i) t lt is =
    let next : suc i + 1 ≡ suc (i + 1) = omega arith in
    rw next (drop-at tuples i t (omega (arith, lt)) is)

-- the first of the tuples that are left
pub tuple_taken : (tuples : List Tuple) (i : ℕ) (t : Tuple) → i < length tuples → t ≡ get_or tuples i t → map row_of (drop i tuples) ≡ row_of t ∷ map row_of (drop (i + 1) tuples)
tuple_taken tuples i t lt is = ap (map row_of) (drop-at tuples i t lt is)

-- the parts of a progress behind the mark
pub parts_joined : (a b c : List ℕ) → ((255 ∷ 2 ∷ [] ++ a) ++ b) ++ c ≡ 255 ∷ 2 ∷ (a ++ (b ++ c))
parts_joined a b c = ap (λ (x : List ℕ). 255 ∷ 2 ∷ x) (append_assoc a b c)
