-- How the places of a table are read, after one of them changed.
use Rattle.std.proofs.Common.{◌≡◌, ℕ, ◌<◌, inl, inr, List, [], length, get_or, set, Option, None, sym, ap, ◌∙◌, arith}
use Rattle.std.proofs.Math.ListN.{length-set}
use Rattle.std.proofs.lemmas.List.{get_or-set_same, get_or-set_other}
use Rattle.apx_history.proofs.Tests.{alike}
use Rattle.apx_hands.specs.Table.{cell, put_cell, IsTable}

module _ {T : Type 0} (t : List (List (Option T))) (o i : ℕ) (x : Option T) (is : IsTable t) (row : o < 16) where
  there : o < length t
  there = let a = is.rows in omega arith

  row_same : get_or (put_cell t o i x) o [] ≡ set (get_or t o []) i x
  row_same = get_or-set_same t o (set (get_or t o []) i x) [] there

  row_other : (p : ℕ) → (p ≡ o → ⊥) → get_or (put_cell t o i x) p [] ≡ get_or t p []
  row_other p n = get_or-set_other t o p (set (get_or t o []) i x) [] n

  -- it has all its places still
  pub put_is : IsTable (put_cell t o i x)
  put_is = record {
    rows = length-set t o (set (get_or t o []) i x) ∙ is.rows;
    cells = λ p lt. elim (alike p o) [
      | inl e ↦ ap (λ (k : ℕ). length (get_or (put_cell t o i x) k [])) e ∙ ap (λ (r : List (Option T)). length r) row_same ∙ length-set (get_or t o []) i x ∙ is.cells o row
      | inr n ↦ ap (λ (r : List (Option T)). length r) (row_other p n) ∙ is.cells p lt
    ];
  }

  -- what was put stands there
  pub cell_here : i < 8 → cell (put_cell t o i x) o i ≡ x
  cell_here lt = ap (λ (r : List (Option T)). get_or r i None) row_same ∙ get_or-set_same (get_or t o []) i x None (let a = is.cells o row in omega arith)

  -- and at each other place what stood there
  pub cell_other : (p j : ℕ) → (p ≡ o → j ≡ i → ⊥) → cell (put_cell t o i x) p j ≡ cell t p j
  cell_other p j n = elim (alike p o) [
    | inl e ↦ ap (λ (k : ℕ). cell (put_cell t o i x) k j) e ∙ ap (λ (r : List (Option T)). get_or r j None) row_same
        ∙ get_or-set_other (get_or t o []) i j x None (n e) ∙ ap (λ (k : ℕ). cell t k j) (sym e)
    | inr ne ↦ ap (λ (r : List (Option T)). get_or r j None) (row_other p ne)
  ]
