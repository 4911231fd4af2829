-- Keys of at most 1,024 bytes: what is made of them has no more, and accepted inputs give no others.
use Rattle.std.specs.Prelude.{⊤}
use Rattle.std.proofs.Common.{◌≡◌, ℕ, zero, suc, ◌+◌, ◌-◌, ◌*◌, ◌≤◌, ◌==◌, ◌||◌, nat_lt, ℤ, Bool, true, false, cond, not, List, [], ◌∷◌, length, take, drop, Option, Some, None, refl, ap, arith}
use Rattle.std.specs.List.{AllByRecursion, filter_map, cons_option}
use Rattle.std.specs.Option.{option_map, option_or, option_and_then}
use Rattle.std.proofs.lemmas.Bool.Decides.{nat_tests}
use Rattle.apx_decimal.specs.Decimal.{integer_of}
use Rattle.apx_pass.specs.Groups as groups
use Rattle.apx_pass.specs.Groups.{Cause, TooMany, TooLong, cause_of, refused_at, first_refused_from, first_refused, group, window_bag, IsInput}
use Rattle.apx_pass.specs.Pairs.{at_last_tab, pair_of, tuple_of}
use Rattle.apx_rules.specs.Rule.{cut_at_blanks, in_word, words_of}
use Rattle.apx_tuple.specs.declared.kind.InputKind.{InputKind}
use Rattle.apx_tuple.specs.declared.kind.InputKind.TheVariants.{Lines, Pairs}
use Rattle.apx_tuple.specs.declared.tuple.Tuple.{Tuple}
use Rattle.apx_tuple.specs.Tuple.{tuple_order}
use Rattle.apx_keys.specs.Keys.{HaveKeys, IsKept, IsShort}
use Rattle.apx_keys.proofs.Members.{each-filter, each-take, each-sorted}

-- ---- what is made of a key

-- each of the words has at most so many bytes
abbrev AreWithin : ℕ → List (List ℕ) → Type 0
AreWithin n words = AllByRecursion (λ word. length word ≤ n) words

wider : (m n : ℕ) → m ≤ n → (words : List (List ℕ)) → AreWithin m words → AreWithin n words
wider m n h [] a = tt
wider m n h (word ∷ words) a = let l = a.0 in (omega (arith, l), wider m n h words a.1)

longer-first : (byte n : ℕ) (words : List (List ℕ)) → AreWithin n words → AreWithin (suc n) (in_word byte words)
longer-first byte n [] a = (omega arith, tt)
longer-first byte n (word ∷ words) a = let l = a.0 in (omega (arith, l), wider n (suc n) (omega arith) words a.1)

cut-within : (key : List ℕ) → AreWithin (length key) (cut_at_blanks key)
unfolding cut_at_blanks
cut-within [] = (omega arith, tt)
cut-within (byte ∷ bytes) = by (byte == 32 || byte == 9) (cut-within bytes)
  where
    by : (b : Bool) → AreWithin (length bytes) (cut_at_blanks bytes) → AreWithin (length (byte ∷ bytes)) (cond b ([] ∷ cut_at_blanks bytes) (in_word byte (cut_at_blanks bytes)))
    by true rest = (omega arith, wider (length bytes) (length (byte ∷ bytes)) (omega arith) (cut_at_blanks bytes) rest)
    by false rest = longer-first byte (length bytes) (cut_at_blanks bytes) rest

take-within : (k : ℕ) (key : List ℕ) → length (take k key) ≤ length key
take-within zero [] = omega arith
take-within zero (byte ∷ bytes) = omega arith
take-within (suc k) [] = omega arith
take-within (suc k) (byte ∷ bytes) = let l = take-within k bytes in omega (arith, l)

pub short-kept : IsKept IsShort
short-kept = record {
  first = λ len key h. let l = take-within len key in omega (arith, l, h);
  words = λ key h. wider (length key) 1024 h (words_of key) (each-filter (λ word. length word ≤ length key) (λ word. not (length word == 0)) (cut_at_blanks key) (cut-within key));
}

-- ---- what an input gives

-- what there is has a key of at most so many bytes
abbrev HasKey : ℕ → Option Tuple → Type 0
HasKey n None = ⊤
HasKey n (Some t) = length t.key ≤ n

-- how many bytes stand before the tab
abbrev front-length : Option (List ℕ × List ℕ) → ℕ
front-length None = 0
front-length (Some parts) = length parts.0

tab-within : (line : List ℕ) (parts : List ℕ × List ℕ) → at_last_tab line ≡ Some parts → length parts.0 ≤ length line
unfolding at_last_tab
tab-within [] parts e = absurd (cc e)
tab-within (byte ∷ bytes) parts e = by (at_last_tab bytes) refl e (λ p q. tab-within bytes p q)
  where
    here : (b : Bool) → cond b (Some ([], bytes)) None ≡ Some parts → length parts.0 ≤ length (byte ∷ bytes)
    here true h = let none : 0 ≡ length parts.0 = ap front-length h in omega (arith, none)
    here false h = absurd (cc h)

    by : (found : Option (List ℕ × List ℕ)) → at_last_tab bytes ≡ found → option_or (option_map (λ p. (byte ∷ p.0, p.1)) found) (cond (byte == 9) (Some ([], bytes)) None) ≡ Some parts →
        ((p : List ℕ × List ℕ) → at_last_tab bytes ≡ Some p → length p.0 ≤ length bytes) → length parts.0 ≤ length (byte ∷ bytes)
    by None f h rest = here (byte == 9) h
    by (Some p) f h rest = let l = rest p f in let same : length (byte ∷ p.0) ≡ length parts.0 = ap front-length h in omega (arith, l, same)

tuple-within : (kind : InputKind) (line : List ℕ) → HasKey (length line) (tuple_of kind line)
unfolding tuple_of pair_of
tuple-within Lines line = omega arith
tuple-within Pairs line = by (at_last_tab line) refl
  where
    with-value : (n : ℕ) (key : List ℕ) → length key ≤ n → (value : Option ℤ) → HasKey n (option_map (λ v. record { key = key; value = v }) value)
    with-value n key h None = tt
    with-value n key h (Some v) = h

    by : (found : Option (List ℕ × List ℕ)) → at_last_tab line ≡ found → HasKey (length line) (option_and_then (λ parts. option_map (λ value. record { key = parts.0; value = value }) (integer_of parts.1)) found)
    by None e = tt
    by (Some parts) e = with-value (length line) parts.0 (tab-within line parts e) (integer_of parts.1)

short-tuples : (kind : InputKind) (lines : List (List ℕ)) → AreWithin 1024 lines → HaveKeys IsShort (filter_map (tuple_of kind) lines)
short-tuples kind [] a = tt
short-tuples kind (line ∷ lines) a = by (tuple_of kind line) (tuple-within kind line) (short-tuples kind lines a.1)
  where
    by : (found : Option Tuple) → HasKey (length line) found → HaveKeys IsShort (filter_map (tuple_of kind) lines) → HaveKeys IsShort (cons_option found (filter_map (tuple_of kind) lines))
    by None h rest = rest
    by (Some t) h rest = let l = a.0 in (omega (arith, h, l), rest)

-- a line that isn't refused is short
line-within : (kind : InputKind) (per_window number : ℕ) (line : List ℕ) → cause_of kind per_window number line ≡ None → length line ≤ 1024
unfolding cause_of
line-within kind per_window number line h = by (number == 20000 * per_window + 1) (nat_lt 1024 (length line)) refl _ h
  where
    by : (a b : Bool) → nat_lt 1024 (length line) ≡ b → (rest : Option Cause) → cond a (Some TooMany) (cond b (Some TooLong) rest) ≡ None → length line ≤ 1024
    by true b e rest g = absurd (cc g)
    by false true e rest g = absurd (cc g)
    by false false e rest g = grind (arith, nat_tests)

lines-within : (kind : InputKind) (per_window number : ℕ) (lines : List (List ℕ)) → first_refused_from kind per_window number lines ≡ None → AreWithin 1024 lines
unfolding first_refused_from refused_at
lines-within kind per_window number [] h = tt
lines-within kind per_window number (line ∷ lines) h = by (cause_of kind per_window number line) refl h (λ g. lines-within kind per_window (number + 1) lines g)
  where
    by : (found : Option Cause) → cause_of kind per_window number line ≡ found →
        option_or (option_map (λ cause. record { line = number; cause = cause }) found) (first_refused_from kind per_window (number + 1) lines) ≡ None →
        (first_refused_from kind per_window (number + 1) lines ≡ None → AreWithin 1024 lines) → AreWithin 1024 (line ∷ lines)
    by None e g rest = (line-within kind per_window number line e, rest g)
    by (Some cause) e g rest = absurd (cc g)

drop-within : (k : ℕ) (lines : List (List ℕ)) → AreWithin 1024 lines → AreWithin 1024 (drop k lines)
drop-within zero [] a = tt
drop-within zero (line ∷ lines) a = a
drop-within (suc k) [] a = tt
drop-within (suc k) (line ∷ lines) a = drop-within k lines a.1

pub input-short : (input : groups.Input) → IsInput input → (w : ℕ) → HaveKeys IsShort (window_bag input w)
unfolding window_bag group first_refused
input-short input is w =
    let all = lines-within input.kind input.per_window 1 input.lines is.accepted in
    each-sorted (λ t. IsShort t.key) tuple_order (filter_map (tuple_of input.kind) (group input w))
    (short-tuples input.kind (group input w) (drop-within ((w - 1) * input.per_window) (take (w * input.per_window) input.lines)
    (each-take (λ line. length line ≤ 1024) (w * input.per_window) input.lines all)))
