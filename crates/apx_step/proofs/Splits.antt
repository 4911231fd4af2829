-- A key's words are its first word, where it isn't empty, and those after it.
use Rattle.std.proofs.Common.{◌≡◌, ℕ, ◌<◌, ◌≤◌, ◌==◌, Bool, true, false, cond, not, ℤ, List, [], ◌∷◌, ◌++◌, length, refl, sym, ap, ◌∙◌, append_assoc, append-nil, arith}
use Rattle.std.specs.List.{filter}
use Rattle.std.proofs.lemmas.List.{map-append}
use Rattle.apx_tuple.specs.declared.tuple.Tuple.{Tuple}
use Rattle.apx_rules.specs.Rule.{cut_at_blanks, in_word, words_of}
use Rattle.apx_step.specs.Words.{is_blank, first_word, past_word, unless_empty, with_value}

record Cut (bytes : List ℕ) : Type 0 where
  tail : List (List ℕ)
  is : cut_at_blanks bytes ≡ first_word bytes ∷ tail
  words : filter (λ w. not (length w == 0)) tail ≡ words_of (past_word bytes)

cut : (bytes : List ℕ) → Cut bytes
unfolding cut_at_blanks
cut [] = record { tail = []; is = refl; words = refl }
cut (byte ∷ bytes) = by (is_blank byte) refl (cut bytes)
  where
    by : (b : Bool) → is_blank byte ≡ b → Cut bytes → Cut (byte ∷ bytes)
    by true h rest = record { tail = cut_at_blanks bytes; is = rw h refl; words = rw h refl }
    by false h rest = record { tail = rest.tail; is = rw h (ap (in_word byte) rest.is); words = rw h rest.words }

pub words-split : (bytes : List ℕ) → words_of bytes ≡ unless_empty (first_word bytes) ++ words_of (past_word bytes)
words-split bytes = let c = cut bytes in ap (filter (λ w. not (length w == 0))) c.is ∙ by (not (length (first_word bytes) == 0)) c.tail c.words
  where
    by : (b : Bool) (tail : List (List ℕ)) → filter (λ w. not (length w == 0)) tail ≡ words_of (past_word bytes) →
        cond b (first_word bytes ∷ filter (λ w. not (length w == 0)) tail) (filter (λ w. not (length w == 0)) tail) ≡ cond b (first_word bytes ∷ []) [] ++ words_of (past_word bytes)
    by true tail e = ap (λ l. first_word bytes ∷ l) e
    by false tail e = e

pub first_word-short : (bytes : List ℕ) → length (first_word bytes) ≤ length bytes
first_word-short [] = omega arith
first_word-short (byte ∷ bytes) = by (is_blank byte) (first_word-short bytes)
  where
    by : (b : Bool) → length (first_word bytes) ≤ length bytes → length (cond b [] (byte ∷ first_word bytes)) ≤ length (byte ∷ bytes)
    by true h = omega arith
    by false h = omega arith

past_word-short : (bytes : List ℕ) → length (past_word bytes) ≤ length bytes
past_word-short [] = omega arith
past_word-short (byte ∷ bytes) = by (is_blank byte) (past_word-short bytes)
  where
    by : (b : Bool) → length (past_word bytes) ≤ length bytes → length (cond b bytes (past_word bytes)) ≤ length (byte ∷ bytes)
    by true h = omega arith
    by false h = omega arith

pub past_word-shorter : (bytes : List ℕ) → 0 < length bytes → length (past_word bytes) < length bytes
past_word-shorter [] h = absurd (omega arith)
past_word-shorter (byte ∷ bytes) h = by (is_blank byte) (past_word-short bytes)
  where
    by : (b : Bool) → length (past_word bytes) ≤ length bytes → length (cond b bytes (past_word bytes)) < length (byte ∷ bytes)
    by true h = omega arith
    by false h = omega arith

-- so what is emitted of the words is emitted of the first and of those after it
pub with_value-split : (value : ℤ) (bytes : List ℕ) → with_value value (words_of bytes) ≡ with_value value (unless_empty (first_word bytes)) ++ with_value value (words_of (past_word bytes))
with_value-split value bytes = ap (with_value value) (words-split bytes) ∙ map-append (λ word. record { key = word; value = value }) (unless_empty (first_word bytes)) (words_of (past_word bytes))

-- a step of a loop over the words
pub emitted-next : (value : ℤ) (before now whole : List Tuple) (bytes word rest : List ℕ) → now ≡ before ++ with_value value (unless_empty word) → word ≡ first_word bytes → rest ≡ past_word bytes →
    before ++ with_value value (words_of bytes) ≡ whole → now ++ with_value value (words_of rest) ≡ whole
emitted-next value before now whole bytes word rest emitted first past all =
    (λ i. emitted i ++ with_value value (words_of (past i)))
    ∙ ap (λ w. (before ++ with_value value (unless_empty w)) ++ with_value value (words_of (past_word bytes))) first
    ∙ append_assoc before (with_value value (unless_empty (first_word bytes))) (with_value value (words_of (past_word bytes)))
    ∙ ap (λ l. before ++ l) (sym (with_value-split value bytes)) ∙ all

-- the end of such a loop
pub emitted-end : (value : ℤ) (now whole : List Tuple) (bytes : List ℕ) → length bytes ≡ 0 → now ++ with_value value (words_of bytes) ≡ whole → now ≡ whole
unfolding cut_at_blanks
emitted-end value now whole [] e all = sym (append-nil now) ∙ all
emitted-end value now whole (byte ∷ bytes) e all = absurd (omega arith)
