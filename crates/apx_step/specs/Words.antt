-- The words of a key, one after the other.
use Rattle.std.specs.Prelude.{ℕ, ℤ, ◌==◌, ◌||◌, Bool, cond, not, length, List, [], ◌∷◌, map}
use Rattle.std.specs.List.{filter}
use Rattle.apx_tuple.specs.declared.tuple.Tuple.{Tuple}

-- blanks and tabs
abbrev pub is_blank : ℕ → Bool
is_blank byte = byte == 32 || byte == 9

-- what comes before the first blank
abbrev pub first_word : List ℕ → List ℕ
first_word [] = []
first_word (byte ∷ bytes) = cond (is_blank byte) [] (byte ∷ first_word bytes)

-- what comes after the first blank
abbrev pub past_word : List ℕ → List ℕ
past_word [] = []
past_word (byte ∷ bytes) = cond (is_blank byte) bytes (past_word bytes)

-- the word, unless it is empty
abbrev pub unless_empty : List ℕ → List (List ℕ)
unless_empty word = filter (λ w. not (length w == 0)) (word ∷ [])

-- the words as tuples with one value
abbrev pub with_value : ℤ → List (List ℕ) → List Tuple
with_value value words = map (λ word. record { key = word; value = value }) words
