-- The numbers that pass a test, one number further.
use Rattle.std.proofs.Common.{◌≡◌, ℕ, zero, suc, ◌+◌, ◌<◌, Bool, true, false, cond, [], ◌∷◌, ◌++◌, refl, sym, ap, ◌∙◌, arith, append-nil}
use Rattle.std.specs.List.{range_with_len, filter}
use Rattle.std.proofs.lemmas.List.Elements.{filter-append}

counting : (a n j : ℕ) → a + n ≡ j → range_with_len a (suc n) ≡ range_with_len a n ++ j ∷ []
counting a zero j e = let same : a ≡ j = omega arith in ap (λ k. k ∷ []) same
counting a (suc n) j e = ap (λ l. a ∷ l) (counting (a + 1) n j (omega arith))

next : (p : ℕ → Bool) (n : ℕ) → filter p (range_with_len 0 (suc n)) ≡ filter p (range_with_len 0 n) ++ cond (p n) (n ∷ []) []
next p n = ap (filter p) (counting 0 n n (omega arith)) ∙ filter-append p (range_with_len 0 n) (n ∷ [])

more : (p : ℕ → Bool) (n : ℕ) → filter p (range_with_len 0 (n + 1)) ≡ filter p (range_with_len 0 n) ++ cond (p n) (n ∷ []) []
more p n = let on : n + 1 ≡ suc n = omega arith in ap (λ k. filter p (range_with_len 0 k)) on ∙ next p n

-- a number that passes comes last
pub takes : (p : ℕ → Bool) (n : ℕ) → p n ≡ true → filter p (range_with_len 0 (n + 1)) ≡ filter p (range_with_len 0 n) ++ n ∷ []
takes p n e = more p n ∙ ap (λ b. filter p (range_with_len 0 n) ++ cond b (n ∷ []) []) e

-- one that doesn't changes nothing
pub passes_over : (p : ℕ → Bool) (n : ℕ) → p n ≡ false → filter p (range_with_len 0 (n + 1)) ≡ filter p (range_with_len 0 n)
passes_over p n e = more p n ∙ ap (λ b. filter p (range_with_len 0 n) ++ cond b (n ∷ []) []) e ∙ append-nil (filter p (range_with_len 0 n))

-- two tests that agree on the numbers below n
pub agree : (p q : ℕ → Bool) (n : ℕ) → ((o : ℕ) → o < n → p o ≡ q o) → filter p (range_with_len 0 n) ≡ filter q (range_with_len 0 n)
agree p q zero h = refl
agree p q (suc n) h =
    next p n
    ∙ ap (λ l. l ++ cond (p n) (n ∷ []) []) (agree p q n (λ o l. h o (omega arith)))
    ∙ ap (λ b. filter q (range_with_len 0 n) ++ cond b (n ∷ []) []) (h n (omega arith))
    ∙ sym (next q n)
