-- A tab and a few digits at a line's end make the line a pair.
use Rattle.std.proofs.Common.{◌≡◌, ◌≢◌, ℕ, ℤ, zero, suc, ◌+◌, ◌-◌, ◌^◌, ◌<◌, ◌≤◌, ◌==◌, ◌&&◌, nat_lt, nat_le, Bool, true, false, cond, List, [], ◌∷◌, length, take, drop, get_or, Option, Some, None, is_some, refl, sym, ap, subst, ◌∙◌, arith}
use Rattle.std.specs.Bool.{OnTrue}
use Rattle.std.specs.Char.{is_ascii_digit}
use Rattle.std.specs.Option.{option_map}
use Rattle.std.specs.Str.{all_ascii_digits}
use Rattle.std.specs.Str.Parse.{digits_value}
use Rattle.std.proofs.lemmas.Bool.{lt-ltb, le-leb, eqb-true}
use Rattle.std.proofs.lemmas.List.{drop_all, drop_more}
use Rattle.std.proofs.lemmas.Str.Parse.{digits_value_short, numerals_by_value, tells_all_ascii_digits}
use Rattle.apx_tuple.specs.declared.tuple.Tuple.{Tuple}
use Rattle.apx_decimal.specs.Decimal.{number_up_to, integer_of}
use Rattle.apx_pass.specs.Pairs.{at_last_tab, pair_of}
use Rattle.apx_pass.proofs.Values.{tab_just_before}

-- behind the end there are digits alone
pub digits-at-end : (line : List ℕ) (at : ℕ) → length line ≤ at → all_ascii_digits (drop at line) ≡ true
digits-at-end line at h = rw (drop_all at line h) refl

-- one digit more
pub digits-more : (line : List ℕ) (at : ℕ) → 0 < at → at ≤ length line → is_ascii_digit (get_or line (at - 1) 0) ≡ true → all_ascii_digits (drop at line) ≡ true → all_ascii_digits (drop (at - 1) line) ≡ true
digits-more line zero p h digit all = absurd (omega arith)
digits-more line (suc at) p h digit all =
    let place : suc at - 1 ≡ at = omega arith in
    let next : at + 1 ≡ suc at = omega arith in
    let here : is_ascii_digit (get_or line at 0) ≡ true = rw place at digit in
    let others : all_ascii_digits (drop (at + 1) line) ≡ true = rw next all in
    rw (place, drop_more line at 0 (omega arith), here) others

digit-no-minus : (byte : ℕ) → is_ascii_digit byte ≡ true → (byte == 45) ≡ false
digit-no-minus byte digit = by (byte == 45) refl
  where
    by : (b : Bool) → (byte == 45) ≡ b → (byte == 45) ≡ false
    by true e = absurd (let same : byte ≡ 45 = eqb-true byte 45 e in let minus : is_ascii_digit 45 ≡ true = subst (λ b. is_ascii_digit b ≡ true) same digit in cc)
    by false e = e

-- a few digits write an integer
few-digits : (digits : List ℕ) → all_ascii_digits digits ≡ true → 0 < length digits → length digits ≤ 18 → true ≡ is_some (integer_of digits)
unfolding integer_of number_up_to
few-digits [] all some few = absurd (omega arith)
few-digits (digit ∷ digits) all some few =
    let small : digits_value 10 (digit ∷ digits) < 10 ^ 18 = digits_value_short (numerals_by_value _ tells_all_ascii_digits) (digit ∷ digits) 18 all few in
    let minus : (digit == 45) ≡ false = digit-no-minus digit (and_left' (is_ascii_digit digit) (all_ascii_digits digits) all) in
    let long : nat_lt 0 (length (digit ∷ digits)) ≡ true = lt-ltb _ _ some in
    let within : nat_le (digits_value 10 (digit ∷ digits)) (2 ^ 63 - 1) ≡ true = le-leb _ _ (omega (arith, small)) in
    rw (minus, long, all, within) refl
  where
    and_left' : (a b : Bool) → (a && b) ≡ true → a ≡ true
    and_left' true b e = refl
    and_left' false b e = absurd cc

abbrev with_key : List ℕ → ℤ → Tuple
with_key key value = record { key = key; value = value }

integer-pair : (key text : List ℕ) (line : List ℕ) → at_last_tab line ≡ Some (key, text) → true ≡ is_some (integer_of text) → true ≡ is_some (pair_of line)
unfolding pair_of
integer-pair key text line cut is = rw cut (by (integer_of text) is)
  where
    by : (value : Option ℤ) → true ≡ is_some value → true ≡ is_some (option_map (with_key key) value)
    by None e = e
    by (Some value) e = refl

-- a tab before a few digits at the end
pub plain-pair : (line : List ℕ) (at : ℕ) → 0 < at → at ≤ length line → get_or line (at - 1) 0 ≡ 9 → at_last_tab (drop at line) ≡ None → all_ascii_digits (drop at line) ≡ true →
    0 < length (drop at line) → length (drop at line) ≤ 18 → true ≡ is_some (pair_of line)
plain-pair line at p h tab none all some few = integer-pair (take (at - 1) line) (drop at line) line (tab_just_before line at p h tab none) (few-digits (drop at line) all some few)

pub sure-pair : (line : List ℕ) (at count : ℕ) (sure : Bool) → length (drop at line) ≡ count → 0 < at → at ≤ length line → get_or line (at - 1) 0 ≡ 9 → at_last_tab (drop at line) ≡ None → all_ascii_digits (drop at line) ≡ true →
    OnTrue sure ((0 < count) × (count ≤ 18)) → OnTrue sure (true ≡ is_some (pair_of line))
sure-pair line at count true same p h tab none all few =
    plain-pair line at p h tab none all (omega (arith, few.0, same)) (omega (arith, few.1, same))
sure-pair line at count false same p h tab none all few = tt
