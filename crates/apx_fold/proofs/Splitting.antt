-- The words of a key, as a split of its bytes gives them.
use Rattle.std.proofs.Common.{◌≡◌, ℕ, ℤ, ◌<◌, ◌≤◌, ◌==◌, Bool, true, false, cond, not, List, [], ◌∷◌, ◌++◌, length, get_or, zero, suc, refl, sym, ap, ◌∙◌, arith, append_assoc}
use Rattle.std.specs.List.{filter, slice_split, onto_first}
use Rattle.std.proofs.lemmas.List.{map-append}
use Rattle.std.proofs.lemmas.List.Elements.{filter-append}
use Rattle.std.proofs.lemmas.List.Splits.{slice_split-cons_yes, slice_split-cons_no}
use Rattle.apx_tuple.specs.declared.tuple.Tuple.{Tuple}
use Rattle.apx_rules.specs.Rule.{cut_at_blanks, in_word, words_of}
use Rattle.apx_step.specs.Words.{is_blank, with_value, unless_empty}

onto-word : (byte : ℕ) (words : List (List ℕ)) → onto_first byte words ≡ in_word byte words
onto-word byte [] = refl
onto-word byte (word ∷ words) = refl

-- a key cut at its blanks
pub split-words : (bytes : List ℕ) → slice_split is_blank bytes ≡ cut_at_blanks bytes
unfolding cut_at_blanks
split-words [] = refl
split-words (byte ∷ bytes) = by (is_blank byte) refl (split-words bytes)
  where
    by : (b : Bool) → is_blank byte ≡ b → slice_split is_blank bytes ≡ cut_at_blanks bytes → slice_split is_blank (byte ∷ bytes) ≡ cond b ([] ∷ cut_at_blanks bytes) (in_word byte (cut_at_blanks bytes))
    by true e rest = slice_split-cons_yes is_blank byte bytes e ∙ ap (λ (words : List (List ℕ)). [] ∷ words) rest
    by false e rest = slice_split-cons_no is_blank byte bytes e ∙ onto-word byte (slice_split is_blank bytes) ∙ ap (in_word byte) rest

-- ---- no word is longer than the key

abbrev AreShort : ℕ → List (List ℕ) → Type 0
AreShort most [] = Unit {0}
AreShort most (word ∷ words) = (length word ≤ most) × AreShort most words

shorter : (most more : ℕ) (words : List (List ℕ)) → most ≤ more → AreShort most words → AreShort more words
shorter most more [] less are = tt
shorter most more (word ∷ words) less are = (omega (arith, less, are.0), shorter most more words less are.1)

cut-short : (bytes : List ℕ) → AreShort (length bytes) (cut_at_blanks bytes)
unfolding cut_at_blanks
cut-short [] = (omega arith, tt)
cut-short (byte ∷ bytes) = by (is_blank byte) (cut_at_blanks bytes) (cut-short bytes)
  where
    by : (b : Bool) (words : List (List ℕ)) → AreShort (length bytes) words → AreShort (length (byte ∷ bytes)) (cond b ([] ∷ words) (in_word byte words))
    by true words are = (omega arith, shorter (length bytes) (length (byte ∷ bytes)) words (omega arith) are)
    by false [] are = (omega arith, tt)
    by false (word ∷ words) are = (omega (arith, are.0), shorter (length bytes) (length (byte ∷ bytes)) words (omega arith) are.1)

short-at : (most : ℕ) (words : List (List ℕ)) (k : ℕ) (d : List ℕ) → k < length words → AreShort most words → length (get_or words k d) ≤ most
short-at most [] k d within are = absurd (omega (arith, within))
short-at most (word ∷ words) zero d within are = are.0
short-at most (word ∷ words) (suc k) d within are = short-at most words k d (omega (arith, within)) are.1

-- the word at a place of the split
pub short-word : (bytes word : List ℕ) (k : ℕ) → k < length (slice_split is_blank bytes) → word ≡ get_or (slice_split is_blank bytes) k word → length bytes ≤ 1024 → length word ≤ 1024
short-word bytes word k within at few =
    let there : k < length (cut_at_blanks bytes) = let same : length (slice_split is_blank bytes) ≡ length (cut_at_blanks bytes) = ap (λ (ws : List (List ℕ)). length ws) (split-words bytes) in omega (arith, within, same) in
    let short = short-at (length bytes) (cut_at_blanks bytes) k word there (cut-short bytes) in
    let same : length word ≡ length (get_or (cut_at_blanks bytes) k word) = ap (λ (w : List ℕ). length w) (at ∙ ap (λ (ws : List (List ℕ)). get_or ws k word) (split-words bytes)) in
    omega (arith, short, same, few)

-- ---- what is told of them

abbrev pub nonempty : List (List ℕ) → List (List ℕ)
nonempty words = filter (λ word. not (length word == 0)) words

-- one word more
pub words-next : (value : ℤ) (first before now : List Tuple) (words : List (List ℕ)) (word : List ℕ) → before ≡ first ++ with_value value (nonempty words) → now ≡ before ++ with_value value (unless_empty word) →
    now ≡ first ++ with_value value (nonempty (words ++ word ∷ []))
words-next value first before now words word was is =
    is ∙ ap (λ (l : List Tuple). l ++ with_value value (unless_empty word)) was
    ∙ append_assoc first (with_value value (nonempty words)) (with_value value (unless_empty word))
    ∙ ap (λ (l : List Tuple). first ++ l)
    (sym (map-append (λ (w : List ℕ). record { key = w; value = value }) (nonempty words) (unless_empty word))
    ∙ ap (with_value value) (sym (filter-append (λ (w : List ℕ). not (length w == 0)) words (word ∷ []))))

-- all words
pub words-all : (value : ℤ) (first now : List Tuple) (words : List (List ℕ)) (bytes : List ℕ) → now ≡ first ++ with_value value (nonempty words) → words ≡ slice_split is_blank bytes →
    now ≡ first ++ with_value value (words_of bytes)
words-all value first now words bytes is all = is ∙ ap (λ (ws : List (List ℕ)). first ++ with_value value (nonempty ws)) (all ∙ split-words bytes)
