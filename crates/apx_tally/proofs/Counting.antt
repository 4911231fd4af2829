-- Counts, an entry after the other, and lines of a script that are left.
use Rattle.std.proofs.Common.{◌≡◌, ℕ, zero, suc, ◌+◌, ◌<◌, Bool, true, false, cond, ◌&&◌, List, [], ◌∷◌, length, get_or, set, map, refl, sym, ap, ◌∙◌, arith}
use Rattle.std.specs.Prelude.{count_by}
use Rattle.std.proofs.lemmas.List.Recursion.{is_count_by}
use Rattle.apx_history.specs.declared.Entry.{Entry}
use Rattle.apx_history.specs.declared.Line.{Line}
use Rattle.apx_history.specs.Plan.{no_line}
use Rattle.apx_tally.specs.declared.report.Counted.{Counted}
use Rattle.apx_tally.specs.Report.{counts, count_of}

-- a count from the right
pub tally : {X : Type 0} → (X → Bool) → List X → ℕ
tally p [] = 0
tally p (x ∷ xs) = cond (p x) (1 + tally p xs) (tally p xs)

pub tally-is : {X : Type 0} (p : X → Bool) (xs : List X) → tally p xs ≡ count_by p xs
unfolding tally
tally-is p xs = is_count_by (tally p) p refl (λ x xs. refl) xs

-- one entry before others
pub count_more : (kind : Counted) (e : Entry) (es : List Entry) → count_of kind (e ∷ es) ≡ cond {A = ℕ} (counts kind e.event) 1 0 + count_of kind es
unfolding tally
count_more kind e es =
    sym (tally-is (λ (x : Entry). counts kind x.event) (e ∷ es)) ∙ by (counts kind e.event)
    ∙ ap (λ n. cond {A = ℕ} (counts kind e.event) 1 0 + n) (tally-is (λ (x : Entry). counts kind x.event) es)
  where
    by : (b : Bool) → cond b (1 + tally (λ (x : Entry). counts kind x.event) es) (tally (λ (x : Entry). counts kind x.event) es)
        ≡ cond {A = ℕ} b 1 0 + tally (λ (x : Entry). counts kind x.event) es
    by true = refl
    by false = omega arith

-- ---- the lines that are left

-- how many of the lines that pass are left
pub left_of : (Line → Bool) → List Line → List Bool → ℕ
left_of p [] bs = 0
left_of p (l ∷ ls) [] = 0
left_of p (l ∷ ls) (b ∷ bs) = cond (b && p l) (1 + left_of p ls bs) (left_of p ls bs)

pub left_all : (p : Line → Bool) (ls : List Line) → left_of p ls (map (λ (l : Line). true) ls) ≡ count_by p ls
unfolding tally left_of
left_all p ls = all ls ∙ tally-is p ls
  where
    all : (ls : List Line) → left_of p ls (map (λ (l : Line). true) ls) ≡ tally p ls
    all [] = refl
    all (l ∷ ls) = ap (λ n. cond (p l) (1 + n) n) (all ls)

pub left_none : (p : Line → Bool) (ls : List Line) (bs : List Bool) → ((k : ℕ) → get_or bs k false ≡ false) → left_of p ls bs ≡ 0
unfolding left_of
left_none p [] bs h = refl
left_none p (l ∷ ls) [] h = refl
left_none p (l ∷ ls) (b ∷ bs) h = by b (h 0) (left_none p ls bs (λ k. h (suc k)))
  where
    by : (c : Bool) → c ≡ false → left_of p ls bs ≡ 0 → cond (c && p l) (1 + left_of p ls bs) (left_of p ls bs) ≡ 0
    by true e r = cc
    by false e r = r

-- a line that is met is left no longer
pub left_met : (p : Line → Bool) (ls : List Line) (bs : List Bool) (k : ℕ) → k < length ls → get_or bs k false ≡ true →
    cond {A = ℕ} (p (get_or ls k no_line)) 1 0 + left_of p ls (set bs k false) ≡ left_of p ls bs
unfolding left_of
left_met p [] bs k low h = absurd (omega arith)
left_met p (l ∷ ls) [] k low h = cc
left_met p (l ∷ ls) (b ∷ bs) zero low h = by b (p l) h
  where
    by : (c d : Bool) → c ≡ true → cond {A = ℕ} d 1 0 + left_of p ls bs ≡ cond (c && d) (1 + left_of p ls bs) (left_of p ls bs)
    by true true e = refl
    by true false e = omega arith
    by false d e = cc
left_met p (l ∷ ls) (b ∷ bs) (suc k) low h = by (b && p l) (left_met p ls bs k (omega arith) h)
  where
    by : (c : Bool) → cond {A = ℕ} (p (get_or ls k no_line)) 1 0 + left_of p ls (set bs k false) ≡ left_of p ls bs →
        cond {A = ℕ} (p (get_or ls k no_line)) 1 0 + cond c (1 + left_of p ls (set bs k false)) (left_of p ls (set bs k false))
        ≡ cond c (1 + left_of p ls bs) (left_of p ls bs)
    by true r = omega arith
    by false r = r
