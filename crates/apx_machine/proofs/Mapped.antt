-- Lists whose members were changed one after the other.
use Rattle.std.proofs.Common.{◌≡◌, ℕ, zero, suc, ◌+◌, ◌<◌, ◌≤◌, List, [], ◌∷◌, length, get_or, set, refl, ap, ◌∙◌, arith}
use Rattle.apx_history.specs.State.{map_from}

mapped_from : {X : Type 0} (f : ℕ → X → X) (n : ℕ) (d : X) (xs ys : List X) → length ys ≡ length xs →
    ((k : ℕ) → k < length xs → get_or ys k d ≡ f (n + k) (get_or xs k d)) → ys ≡ map_from n f xs
unfolding map_from
mapped_from f n d [] [] e h = refl
mapped_from f n d [] (y ∷ ys) e h = absurd (omega arith)
mapped_from f n d (x ∷ xs) [] e h = absurd (omega arith)
mapped_from f n d (x ∷ xs) (y ∷ ys) e h =
    let a : n + 0 ≡ n = omega arith in
    let head : y ≡ f n x = h 0 (omega arith) ∙ ap (λ (j : ℕ). f j x) a in
    let rest = mapped_from f (n + 1) d xs ys (omega arith) (λ k r. (let b : n + suc k ≡ n + 1 + k = omega arith in h (suc k) (omega arith) ∙ ap (λ (j : ℕ). f j (get_or xs k d)) b)) in
    ap (λ z. z ∷ ys) head ∙ ap (λ zs. f n x ∷ zs) rest

-- where each member of ys is the member of xs there, changed
pub mapped : {X : Type 0} (f : ℕ → X → X) (d : X) (xs ys : List X) → length ys ≡ length xs →
    ((k : ℕ) → k < length xs → get_or ys k d ≡ f k (get_or xs k d)) → ys ≡ map_from 0 f xs
mapped f d xs ys e h = mapped_from f 0 d xs ys e (λ k r. (let a : k ≡ 0 + k = omega arith in h k r ∙ ap (λ (j : ℕ). f j (get_or xs k d)) a))

-- nothing is set beyond the end
pub set_beyond : {X : Type 0} (xs : List X) (i : ℕ) (y : X) → length xs ≤ i → xs ≡ set xs i y
set_beyond [] i y h = refl
set_beyond (x ∷ xs) zero y h = absurd (omega arith)
set_beyond (x ∷ xs) (suc i) y h = ap (λ ys. x ∷ ys) (set_beyond xs i y (omega arith))
