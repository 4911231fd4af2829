-- How the partitions of a changed state are read.
use Rattle.std.proofs.Common.{◌≡◌, ℕ, zero, suc, ◌+◌, ◌<◌, ◌≤◌, ◌⊎◌, inl, inr, Bool, true, false, cond, ◌&&◌, ◌==◌, List, [], ◌∷◌, length, get_or, set, refl, sym, ap, subst, ◌∙◌, arith}
use Rattle.std.proofs.Math.ListN.{length-set}
use Rattle.std.proofs.lemmas.List.{get_or-set_same, get_or-set_other}
use Rattle.apx_history.specs.State.{Slot, Oper, State, fresh, no_oper, oper, parts, slot, IsPart, map_from, put, map_slots}
use Rattle.apx_history.proofs.Tests.{alike}

-- ---- one partition changed

module _ (m : State) (o i : ℕ) (x : Slot) (here : IsPart m o i) where
  changed : Oper
  changed = record { boundary = (oper m o).boundary; parts = set (oper m o).parts i x }

  pub oper_same : oper (put m o i x) o ≡ record { boundary = (oper m o).boundary; parts = set (oper m o).parts i x }
  unfolding put
  oper_same = get_or-set_same m.ops o (record { boundary = (oper m o).boundary; parts = set (oper m o).parts i x }) no_oper here.0

  pub oper_other : (p : ℕ) → (p ≡ o → ⊥) → oper (put m o i x) p ≡ oper m p
  unfolding put
  oper_other p h = get_or-set_other m.ops o p (record { boundary = (oper m o).boundary; parts = set (oper m o).parts i x }) no_oper h

  pub put_ops : length (put m o i x).ops ≡ length m.ops
  unfolding put
  put_ops = length-set m.ops o (record { boundary = (oper m o).boundary; parts = set (oper m o).parts i x })

  pub put_boundary : (p : ℕ) → (oper (put m o i x) p).boundary ≡ (oper m p).boundary
  put_boundary p = elim (alike p o) [
    | inl e ↦ ap (λ (k : ℕ). (oper (put m o i x) k).boundary) e ∙ ap (λ (q : Oper). q.boundary) oper_same ∙ ap (λ (k : ℕ). (oper m k).boundary) (sym e)
    | inr h ↦ ap (λ (q : Oper). q.boundary) (oper_other p h)
  ]

  pub put_parts : (p : ℕ) → parts (put m o i x) p ≡ parts m p
  put_parts p = elim (alike p o) [
    | inl e ↦ ap (λ (k : ℕ). parts (put m o i x) k) e ∙ ap (λ (q : Oper). length q.parts) oper_same ∙ length-set (oper m o).parts i x ∙ ap (λ (k : ℕ). parts m k) (sym e)
    | inr h ↦ ap (λ (q : Oper). length q.parts) (oper_other p h)
  ]

  -- who is there stays
  pub part_was : (p j : ℕ) → IsPart (put m o i x) p j → IsPart m p j
  part_was p j r = let a = put_ops in let b = put_parts p in (omega arith, omega arith)

  pub part_is : (p j : ℕ) → IsPart m p j → IsPart (put m o i x) p j
  part_is p j r = let a = put_ops in let b = put_parts p in (omega arith, omega arith)

  pub slot_here : slot (put m o i x) o i ≡ x
  slot_here = ap (λ (q : Oper). get_or q.parts i (fresh 0)) oper_same ∙ get_or-set_same (oper m o).parts i x (fresh 0) here.1

  pub slot_other : (p j : ℕ) → (p ≡ o → j ≡ i → ⊥) → slot (put m o i x) p j ≡ slot m p j
  slot_other p j h = elim (alike p o) [
    | inl e ↦ ap (λ (k : ℕ). slot (put m o i x) k j) e ∙ ap (λ (q : Oper). get_or q.parts j (fresh 0)) oper_same
        ∙ get_or-set_other (oper m o).parts i j x (fresh 0) (h e) ∙ ap (λ (k : ℕ). slot m k j) (sym e)
    | inr n ↦ ap (λ (q : Oper). get_or q.parts j (fresh 0)) (oper_other p n)
  ]

  -- what holds of the changed partition, and of each other as it was, holds of each
  pub put_slot : (P : ℕ → ℕ → Slot → Type 0) → P o i x → (p j : ℕ) → ((p ≡ o → j ≡ i → ⊥) → P p j (slot m p j)) → P p j (slot (put m o i x) p j)
  put_slot P new p j old = elim (alike p o) [
    | inl e ↦ elim (alike j i) [
      | inl f ↦ subst (λ (k : ℕ). P k j (slot (put m o i x) k j)) (sym e) (subst (λ (k : ℕ). P o k (slot (put m o i x) o k)) (sym f) (subst (λ (y : Slot). P o i y) (sym slot_here) new))
      | inr n ↦ let g : p ≡ o → j ≡ i → ⊥ = λ a b. n b in subst (λ (y : Slot). P p j y) (sym (slot_other p j g)) (old g)
    ]
    | inr n ↦ let g : p ≡ o → j ≡ i → ⊥ = λ a b. n a in subst (λ (y : Slot). P p j y) (sym (slot_other p j g)) (old g)
  ]

-- ---- each partition changed

-- a list with each member changed
pub length-map_from : {X : Type 0} (f : ℕ → X → X) (n : ℕ) (xs : List X) → length (map_from n f xs) ≡ length xs
unfolding map_from
length-map_from f n [] = refl
length-map_from f n (x ∷ xs) = ap suc (length-map_from f (n + 1) xs)

pub get_map_from : {X : Type 0} (f : ℕ → X → X) (n : ℕ) (xs : List X) (k : ℕ) (d : X) → k < length xs → get_or (map_from n f xs) k d ≡ f (n + k) (get_or xs k d)
unfolding map_from
get_map_from f n [] k d h = absurd (omega arith)
get_map_from f n (x ∷ xs) zero d h = ap (λ (j : ℕ). f j x) (omega arith)
get_map_from f n (x ∷ xs) (suc k) d h =
    let e : n + 1 + k ≡ n + suc k = omega arith in
    get_map_from f (n + 1) xs k d (omega arith) ∙ ap (λ (j : ℕ). f j (get_or xs k d)) e

module _ (f : ℕ → ℕ → Slot → Slot) (m : State) where
  mapped : ℕ → Oper → Oper
  mapped o p = record { boundary = p.boundary; parts = map_from 0 (f o) p.parts }

  pub map_ops : length (map_slots f m).ops ≡ length m.ops
  unfolding map_slots
  map_ops = length-map_from _ 0 m.ops

  oper_map : (o : ℕ) → o < length m.ops → oper (map_slots f m) o ≡ record { boundary = (oper m o).boundary; parts = map_from 0 (f o) (oper m o).parts }
  unfolding map_slots
  oper_map o h = get_map_from _ 0 m.ops o no_oper h ∙ ap (λ (k : ℕ). record { boundary = (oper m o).boundary; parts = map_from 0 (f k) (oper m o).parts }) (omega arith)

  pub map_boundary : (o : ℕ) → o < length m.ops → (oper (map_slots f m) o).boundary ≡ (oper m o).boundary
  map_boundary o h = ap (λ (q : Oper). q.boundary) (oper_map o h)

  pub map_parts : (o : ℕ) → o < length m.ops → parts (map_slots f m) o ≡ parts m o
  map_parts o h = ap (λ (q : Oper). length q.parts) (oper_map o h) ∙ length-map_from (f o) 0 (oper m o).parts

  pub map_was : (o i : ℕ) → IsPart (map_slots f m) o i → IsPart m o i
  map_was o i r = let a : o < length m.ops = (let e = map_ops in omega arith) in let b = map_parts o a in (a, omega arith)

  pub map_is : (o i : ℕ) → IsPart m o i → IsPart (map_slots f m) o i
  map_is o i r = let a = map_ops in let b = map_parts o r.0 in (omega arith, omega arith)

  pub slot_map : (o i : ℕ) → IsPart m o i → slot (map_slots f m) o i ≡ f o i (slot m o i)
  slot_map o i r = ap (λ (q : Oper). get_or q.parts i (fresh 0)) (oper_map o r.0) ∙ get_map_from (f o) 0 (oper m o).parts i (fresh 0) r.1
      ∙ ap (λ (k : ℕ). f o k (slot m o i)) (omega arith)
