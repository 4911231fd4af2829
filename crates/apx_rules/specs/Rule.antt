-- What an operator makes of one key in one window.
--
-- The key may have an entry, the number that the operator keeps for it. The tuples that came with the
-- key are seen by their values, in ascending order. Arithmetic is two's complement on 64 bits and wraps.
use Rattle.std.specs.Prelude.{ℕ, ◌%◌, ◌==◌, ◌||◌, ◌&&◌, Bool, true, false, cond, not, List, [], ◌∷◌, ℤ, pos, int_le, int_lt, length, map, take, filter, Option, Some, None, is_some, unwrap_or}
use Rattle.std.specs.Int.{int_wrapping_add, int_wrapping_mul, int_max, w64}
use Rattle.std.specs.List.{filter, fold, flat_map}
use Rattle.apx_tuple.specs.declared.kind.Kind.{Kind}
use Rattle.apx_tuple.specs.declared.kind.Kind.TheVariants.{Keep, Scale, Words, Prefix, Count, Sum, Peak, First, Tumble, Match, Enrich, Top}
use Rattle.apx_tuple.specs.declared.tuple.Tuple.{Tuple}

-- the entry that the key has from then on, and the tuples that are emitted of it
pub record Outcome : Type 0 where
  -- the entry, if the key has one
  pub entry : Option ℤ
  -- the tuples, in the order of the values
  pub emitted : List Tuple

-- a tuple of the key for each value
abbrev pub tuples_of : List ℕ → List ℤ → List Tuple
tuples_of key values = map (λ value. record { key = key; value = value }) values

-- whether there are any values
abbrev pub came : List ℤ → Bool
came values = not (length values == 0)

-- a number and the values, added up
abbrev pub total : ℤ → List ℤ → ℤ
total start values = fold (int_wrapping_add w64) start values

-- the greatest of an entry, if there is one, and the values
abbrev pub greatest : Option ℤ → List ℤ → Option ℤ
greatest old [] = old
greatest old (value ∷ values) = greatest (Some (int_max (unwrap_or old value) value)) values

-- a byte in front of the first word
abbrev pub in_word : ℕ → List (List ℕ) → List (List ℕ)
in_word byte [] = (byte ∷ []) ∷ []
in_word byte (word ∷ words) = (byte ∷ word) ∷ words

-- a key cut at its blanks and tabs, bytes 32 and 9
unfoldable pub cut_at_blanks : List ℕ → List (List ℕ)
cut_at_blanks [] = [] ∷ []
cut_at_blanks (byte ∷ bytes) = cond (byte == 32 || byte == 9) ([] ∷ cut_at_blanks bytes) (in_word byte (cut_at_blanks bytes))

-- the words of a key: what stands between its blanks and tabs and isn't empty
abbrev pub words_of : List ℕ → List (List ℕ)
words_of key = filter (λ word. not (length word == 0)) (cut_at_blanks key)

-- Passes on the tuples whose value is from `min` to `max`.
abbrev pub keep_rule : ℤ → ℤ → List ℕ → List ℤ → Outcome
keep_rule min max key lefts =
    record { entry = None; emitted = tuples_of key (filter (λ value. int_le min value && int_le value max) lefts) }

-- Multiplies each value by the factor.
abbrev pub scale_rule : ℤ → List ℕ → List ℤ → Outcome
scale_rule factor key lefts = record { entry = None; emitted = tuples_of key (map (λ value. int_wrapping_mul w64 value factor) lefts) }

-- Emits each word of the key, with each of its values.
abbrev pub words_rule : List ℕ → List ℤ → Outcome
words_rule key lefts =
    record { entry = None; emitted = flat_map (λ value. map (λ word. record { key = word; value = value }) (words_of key)) lefts }

-- Cuts the key to its first bytes.
abbrev pub prefix_rule : ℕ → List ℕ → List ℤ → Outcome
prefix_rule len key lefts = record { entry = None; emitted = tuples_of (take len key) lefts }

-- Keeps a number for a key that came and emits it; the entry of one that didn't come stays.
abbrev pub running : List ℕ → Option ℤ → Bool → ℤ → Outcome
running key old true value = record { entry = Some value; emitted = record { key = key; value = value } ∷ [] }
running key old false value = record { entry = old; emitted = [] }

-- Counts the tuples.
abbrev pub count_rule : List ℕ → Option ℤ → List ℤ → Outcome
count_rule key old lefts = running key old (came lefts) (int_wrapping_add w64 (unwrap_or old (pos 0)) (pos (length lefts)))

-- Adds up the values.
abbrev pub sum_rule : List ℕ → Option ℤ → List ℤ → Outcome
sum_rule key old lefts = running key old (came lefts) (total (unwrap_or old (pos 0)) lefts)

-- whether an entry is new or greater than before
abbrev pub rose : Option ℤ → ℤ → Bool
rose None value = true
rose (Some old) value = int_lt old value

-- Keeps the greatest value, and emits it where it is the first or rose.
abbrev pub peak_rule : List ℕ → Option ℤ → List ℤ → Outcome
peak_rule key old [] = record { entry = old; emitted = [] }
peak_rule key old (value ∷ values) =
    let peak = unwrap_or (greatest old (value ∷ values)) value in
    record { entry = Some peak; emitted = cond (rose old peak) (record { key = key; value = peak } ∷ []) [] }

-- Emits the least value of a key that came for the first time.
abbrev pub first_rule : List ℕ → Option ℤ → List ℤ → Outcome
first_rule key old [] = record { entry = old; emitted = [] }
first_rule key old (value ∷ values) =
    record { entry = Some (pos 1); emitted = cond (is_some old) [] (record { key = key; value = value } ∷ []) }

-- Adds up the values, and at each window that is a multiple of `every` emits the sum and forgets it.
abbrev pub tumble_rule : ℕ → ℕ → List ℕ → Option ℤ → List ℤ → Outcome
tumble_rule every window key old lefts =
    let sum = cond (came lefts) (Some (total (unwrap_or old (pos 0)) lefts)) old in
    cond (window % every == 0)
    (record { entry = None; emitted = tuples_of key (cond (is_some sum) (unwrap_or sum (pos 0) ∷ []) []) })
    (record { entry = sum; emitted = [] })

-- Passes on the left tuples of a key that came on the right.
abbrev pub match_rule : List ℕ → List ℤ → List ℤ → Outcome
match_rule key lefts rights = record { entry = None; emitted = cond (came rights) (tuples_of key lefts) [] }

-- the values, each with the entry added, where there is one
abbrev pub with_entry_added : Option ℤ → List ℤ → List ℤ
with_entry_added None values = []
with_entry_added (Some entry) values = map (λ value. int_wrapping_add w64 value entry) values

-- Keeps the greatest right value of the newest window that had one, and adds it to each left value.
abbrev pub enrich_rule : List ℕ → Option ℤ → List ℤ → List ℤ → Outcome
enrich_rule key old lefts rights =
    let entry = cond (came rights) (greatest None rights) old in
    record { entry = entry; emitted = tuples_of key (with_entry_added entry lefts) }

-- what each kind makes of a key; `top` has a rule for the whole bag alone
unfoldable pub rule : Kind → ℕ → List ℕ → Option ℤ → List ℤ → List ℤ → Outcome
rule (Keep min max) window key old lefts rights = keep_rule min max key lefts
rule (Scale factor) window key old lefts rights = scale_rule factor key lefts
rule Words window key old lefts rights = words_rule key lefts
rule (Prefix len) window key old lefts rights = prefix_rule len key lefts
rule Count window key old lefts rights = count_rule key old lefts
rule Sum window key old lefts rights = sum_rule key old lefts
rule Peak window key old lefts rights = peak_rule key old lefts
rule First window key old lefts rights = first_rule key old lefts
rule (Tumble every) window key old lefts rights = tumble_rule every window key old lefts
rule Match window key old lefts rights = match_rule key lefts rights
rule Enrich window key old lefts rights = enrich_rule key old lefts rights
rule (Top k) window key old lefts rights = record { entry = None; emitted = [] }
