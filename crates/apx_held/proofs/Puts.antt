-- How what is kept for partitions is read after a change of one of them, and beside it the machine.
use Rattle.std.proofs.Common.{◌≡◌, ℕ, inl, inr, List, [], length, get_or, set, sym, ap, subst, ◌∙◌, arith}
use Rattle.std.proofs.Math.ListN.{length-set}
use Rattle.std.proofs.lemmas.List.{get_or-set_same, get_or-set_other, set-get_or}
use Rattle.apx_history.specs.State.{Slot, State, oper, slot, IsPart, put}
use Rattle.apx_history.proofs.Tests.{alike}
use Rattle.apx_history.proofs.Slots.{put_boundary, slot_here, slot_other}
use Rattle.apx_held.specs.Holding.{Holding, holding, put_holding, no_holding, IsHeld}

-- ---- what is kept for one partition changed

module _ (hs : List (List Holding)) (o i : ℕ) (h : Holding) (here : IsHeld hs o i) where
  group_same : get_or (put_holding hs o i h) o [] ≡ set (get_or hs o []) i h
  group_same = get_or-set_same hs o (set (get_or hs o []) i h) [] here.0

  group_other : (p : ℕ) → (p ≡ o → ⊥) → get_or (put_holding hs o i h) p [] ≡ get_or hs p []
  group_other p n = get_or-set_other hs o p (set (get_or hs o []) i h) [] n

  pub held_ops : length (put_holding hs o i h) ≡ length hs
  held_ops = length-set hs o (set (get_or hs o []) i h)

  pub held_parts : (p : ℕ) → length (get_or (put_holding hs o i h) p []) ≡ length (get_or hs p [])
  held_parts p = elim (alike p o) [
    | inl e ↦ ap (λ (k : ℕ). length (get_or (put_holding hs o i h) k [])) e ∙ ap (λ (g : List Holding). length g) group_same ∙ length-set (get_or hs o []) i h ∙ ap (λ (k : ℕ). length (get_or hs k [])) (sym e)
    | inr n ↦ ap (λ (g : List Holding). length g) (group_other p n)
  ]

  -- who is there stays
  pub held_is : (p j : ℕ) → IsHeld hs p j → IsHeld (put_holding hs o i h) p j
  held_is p j r = let a = held_ops in let b = held_parts p in (omega arith, omega arith)

  pub holding_here : holding (put_holding hs o i h) o i ≡ h
  holding_here = ap (λ (g : List Holding). get_or g i no_holding) group_same ∙ get_or-set_same (get_or hs o []) i h no_holding here.1

  pub holding_other : (p j : ℕ) → (p ≡ o → j ≡ i → ⊥) → holding (put_holding hs o i h) p j ≡ holding hs p j
  holding_other p j n = elim (alike p o) [
    | inl e ↦ ap (λ (k : ℕ). holding (put_holding hs o i h) k j) e ∙ ap (λ (g : List Holding). get_or g j no_holding) group_same
        ∙ get_or-set_other (get_or hs o []) i j h no_holding (n e) ∙ ap (λ (k : ℕ). holding hs k j) (sym e)
    | inr ne ↦ ap (λ (g : List Holding). get_or g j no_holding) (group_other p ne)
  ]

  -- what holds of what was put, and of each other as it was, holds of each
  pub held_put : (P : ℕ → ℕ → Holding → Type 0) → P o i h → (p j : ℕ) → ((p ≡ o → j ≡ i → ⊥) → P p j (holding hs p j)) → P p j (holding (put_holding hs o i h) p j)
  held_put P new p j old = elim (alike p o) [
    | inl e ↦ elim (alike j i) [
      | inl f ↦ subst (λ (k : ℕ). P k j (holding (put_holding hs o i h) k j)) (sym e) (subst (λ (k : ℕ). P o k (holding (put_holding hs o i h) o k)) (sym f) (subst (λ (g : Holding). P o i g) (sym holding_here) new))
      | inr n ↦ let g : p ≡ o → j ≡ i → ⊥ = λ a b. n b in subst (λ (y : Holding). P p j y) (sym (holding_other p j g)) (old g)
    ]
    | inr n ↦ let g : p ≡ o → j ≡ i → ⊥ = λ a b. n a in subst (λ (y : Holding). P p j y) (sym (holding_other p j g)) (old g)
  ]

-- what was there is put again
pub put_same : (hs : List (List Holding)) (o i : ℕ) → put_holding hs o i (holding hs o i) ≡ hs
put_same hs o i = ap (set hs o) (set-get_or (get_or hs o []) i no_holding) ∙ set-get_or hs o []

-- ---- a partition and what is kept for it changed

module _ (m : State) (hs : List (List Holding)) (o i : ℕ) (x : Slot) (h : Holding) (part : IsPart m o i) (here : IsHeld hs o i) where
  -- what holds of the changed partition with what is kept for it, and of each other as it was, holds of each
  pub pair_put : (P : ℕ → ℕ → ℕ → Slot → Holding → Type 0) → P o i (oper m o).boundary x h → (p j : ℕ) → ((p ≡ o → j ≡ i → ⊥) → P p j (oper m p).boundary (slot m p j) (holding hs p j)) →
      P p j (oper (put m o i x) p).boundary (slot (put m o i x) p j) (holding (put_holding hs o i h) p j)
  pair_put P new p j old = elim (alike p o) [
    | inl e ↦ elim (alike j i) [
      | inl f ↦ subst (λ (k : ℕ). P k j (oper (put m o i x) k).boundary (slot (put m o i x) k j) (holding (put_holding hs o i h) k j)) (sym e)
          (subst (λ (k : ℕ). P o k (oper (put m o i x) o).boundary (slot (put m o i x) o k) (holding (put_holding hs o i h) o k)) (sym f) changed)
      | inr n ↦ apart (λ a b. n b)
    ]
    | inr n ↦ apart (λ a b. n a)
  ]
    where
      changed : P o i (oper (put m o i x) o).boundary (slot (put m o i x) o i) (holding (put_holding hs o i h) o i)
      changed = subst (λ (b : ℕ). P o i b (slot (put m o i x) o i) (holding (put_holding hs o i h) o i)) (sym (put_boundary m o i x part o))
          (subst (λ (y : Slot). P o i (oper m o).boundary y (holding (put_holding hs o i h) o i)) (sym (slot_here m o i x part))
          (subst (λ (g : Holding). P o i (oper m o).boundary x g) (sym (holding_here hs o i h here)) new))

      apart : (p ≡ o → j ≡ i → ⊥) → P p j (oper (put m o i x) p).boundary (slot (put m o i x) p j) (holding (put_holding hs o i h) p j)
      apart n = subst (λ (b : ℕ). P p j b (slot (put m o i x) p j) (holding (put_holding hs o i h) p j)) (sym (put_boundary m o i x part p))
          (subst (λ (y : Slot). P p j (oper m p).boundary y (holding (put_holding hs o i h) p j)) (sym (slot_other m o i x part p j n))
          (subst (λ (g : Holding). P p j (oper m p).boundary (slot m p j) g) (sym (holding_other hs o i h here p j n)) (old n)))
