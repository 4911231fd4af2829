-- Marks of a view, where one was changed, and where two views are joined.
use Rattle.std.proofs.Common.{◌≡◌, ℕ, zero, suc, ◌≢◌, ◌⊎◌, true, List, [], ◌∷◌, length, sym, refl, ap, ◌∙◌, subst, inl, inr, ⊎_elim, arith}
use mathlib.Core.Option.{some, some-injective, some-ne-none}
use mathlib.Core.Logic.{dite}
use native.Mathlib.Decide.{ℕ_discrete}
use lib.ListN.{get_elem?}
use Rattle.apx_lock.specs.declared.view.Mark.{Mark}
use Rattle.apx_lock.specs.Views.{with_mark, joined_mark, joined_marks}

pub length-with_mark : (f : Mark → Mark) (j : ℕ) (ms : List Mark) → length (with_mark f j ms) ≡ length ms
length-with_mark f j [] = refl
length-with_mark f zero (m ∷ ms) = refl
length-with_mark f (suc j) (m ∷ ms) = ap suc (length-with_mark f j ms)

-- the mark at k is the changed one, or another one as it was
pub at_with_mark : (f : Mark → Mark) (j : ℕ) (ms : List Mark) (k : ℕ) (n : Mark) → get_elem? (with_mark f j ms) k ≡ some n
    → ((k ≡ j) × ((m : Mark) × (get_elem? ms k ≡ some m) × (f m ≡ n))) ⊎ ((k ≢ j) × (get_elem? ms k ≡ some n))
at_with_mark f j [] k n e = absurd (some-ne-none n (sym e))
at_with_mark f zero (m ∷ ms) zero n e = inl (refl, (m, refl, some-injective (f m) n e))
at_with_mark f zero (m ∷ ms) (suc k) n e = inr ((λ h. omega arith), e)
at_with_mark f (suc j) (m ∷ ms) zero n e = inr ((λ h. omega arith), e)
at_with_mark f (suc j) (m ∷ ms) (suc k) n e = ⊎_elim (λ (t : (k ≡ j) × ((m : Mark) × (get_elem? ms k ≡ some m) × (f m ≡ n))). inl (ap suc t.0, t.1))
    (λ (t : (k ≢ j) × (get_elem? ms k ≡ some n)). let ne = t.0 in inr ((λ h. ne (omega arith)), t.1)) (at_with_mark f j ms k n e)

pub with_mark_here : (f : Mark → Mark) (j : ℕ) (ms : List Mark) (m : Mark) → get_elem? ms j ≡ some m → get_elem? (with_mark f j ms) j ≡ some (f m)
with_mark_here f j [] m e = absurd (some-ne-none m (sym e))
with_mark_here f zero (n ∷ ms) m e = ap (λ (x : Mark). some (f x)) (some-injective n m e)
with_mark_here f (suc j) (n ∷ ms) m e = with_mark_here f j ms m e

pub with_mark_else : (f : Mark → Mark) (j : ℕ) (ms : List Mark) (k : ℕ) → k ≢ j → get_elem? (with_mark f j ms) k ≡ get_elem? ms k
with_mark_else f j [] k ne = refl
with_mark_else f zero (n ∷ ms) zero ne = absurd (ne refl)
with_mark_else f zero (n ∷ ms) (suc k) ne = refl
with_mark_else f (suc j) (n ∷ ms) zero ne = refl
with_mark_else f (suc j) (n ∷ ms) (suc k) ne = with_mark_else f j ms k (λ e. ne (ap suc e))

pub length-joined_marks : (ms ns : List Mark) → length (joined_marks ms ns) ≡ length ms
length-joined_marks [] ns = refl
length-joined_marks (m ∷ ms) [] = refl
length-joined_marks (m ∷ ms) (n ∷ ns) = ap suc (length-joined_marks ms ns)

-- the mark at k is joined of the two at k
pub at_joined_marks : (ms ns : List Mark) (k : ℕ) (r : Mark) → length ms ≡ length ns → get_elem? (joined_marks ms ns) k ≡ some r
    → (m n : Mark) × (get_elem? ms k ≡ some m) × (get_elem? ns k ≡ some n) × (joined_mark m n ≡ r)
at_joined_marks [] ns k r same e = absurd (some-ne-none r (sym e))
at_joined_marks (m ∷ ms) [] k r same e = absurd (omega arith)
at_joined_marks (m ∷ ms) (n ∷ ns) zero r same e = (m, n, refl, refl, some-injective (joined_mark m n) r e)
at_joined_marks (m ∷ ms) (n ∷ ns) (suc k) r same e = at_joined_marks ms ns k r (omega arith) e

pub joined_marks_at : (ms ns : List Mark) (k : ℕ) (m n : Mark) → get_elem? ms k ≡ some m → get_elem? ns k ≡ some n → get_elem? (joined_marks ms ns) k ≡ some (joined_mark m n)
joined_marks_at [] ns k m n p q = absurd (some-ne-none m (sym p))
joined_marks_at (x ∷ ms) [] k m n p q = absurd (some-ne-none n (sym q))
joined_marks_at (x ∷ ms) (y ∷ ns) zero m n p q = λ i. some (joined_mark (some-injective x m p i) (some-injective y n q i))
joined_marks_at (x ∷ ms) (y ∷ ns) (suc k) m n p q = joined_marks_at ms ns k m n p q

-- which marks are owned stays so, where the change keeps it
pub owned_before : (f : Mark → Mark) (j : ℕ) (ms : List Mark) → ((m : Mark) → (f m).owned ≡ m.owned) → (i : ℕ) → (m : Mark) × (get_elem? (with_mark f j ms) i ≡ some m) × (m.owned ≡ true) → (m : Mark) × (get_elem? ms i ≡ some m) × (m.owned ≡ true)
owned_before f j ms same i o = ⊎_elim (λ (t : (i ≡ j) × ((m : Mark) × (get_elem? ms i ≡ some m) × (f m ≡ o.0))). (t.1.0, t.1.1, sym (same t.1.0) ∙ (ap (λ (m : Mark). m.owned) t.1.2 ∙ o.2)))
    (λ (t : (i ≢ j) × (get_elem? ms i ≡ some o.0)). (o.0, t.1, o.2)) (at_with_mark f j ms i o.0 o.1)

pub owned_after : (f : Mark → Mark) (j : ℕ) (ms : List Mark) → ((m : Mark) → (f m).owned ≡ m.owned) → (i : ℕ) → (m : Mark) × (get_elem? ms i ≡ some m) × (m.owned ≡ true) → (m : Mark) × (get_elem? (with_mark f j ms) i ≡ some m) × (m.owned ≡ true)
owned_after f j ms same i o = dite (ℕ_discrete i j)
    (λ (e : i ≡ j). (f o.0, subst (λ (k : ℕ). get_elem? (with_mark f j ms) k ≡ some (f o.0)) (sym e) (with_mark_here f j ms o.0 (subst (λ (k : ℕ). get_elem? ms k ≡ some o.0) e o.1)), same o.0 ∙ o.2))
    (λ (ne : i ≢ j). (o.0, with_mark_else f j ms i ne ∙ o.1, o.2))
