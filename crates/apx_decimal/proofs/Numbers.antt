-- The number that digits write, as a loop over them reads it, and the one behind a minus.
use Rattle.std.proofs.Common.{SomeIff, FitsSigned, w64, ◌+ℤ◌, ◌-ℤ◌, ◌≡◌, ◌≢◌, ℕ, ℤ, pos, neg_ℤ, ◌+◌, ◌-◌, ◌*◌, ◌^◌, ◌<◌, ◌≤◌, ◌==◌, ◌&&◌, ◌⊎◌, inl, inr, nat_lt, nat_le, Bool, true, false, cond, List, [], ◌∷◌, length, get_or, Option, Some, None, refl, sym, ap, ◌∙◌, arith}
use Rattle.std.specs.Char.{digit_value, is_ascii_digit}
use Rattle.std.specs.Option.{option_map}
use Rattle.std.specs.Str.{all_ascii_digits}
use Rattle.std.specs.Str.Parse.{digits_value, digits_value_after}
use borrow.Author.Tests.{lt-ltb}
use Rattle.std.proofs.lemmas.Int.{ints}
use Rattle.std.proofs.lemmas.Bool.{cases_lt, ne_eqb, and_cases, leb-false, eq-eqb, cond-true, cond-false, and_left, and_right, and_from, lt-leb, le-leb}
use Rattle.std.proofs.lemmas.Bool.Decides.{nat_tests}
use Rattle.apx_decimal.specs.Decimal.{number_up_to, integer_of}

-- a digit's value
pub digit_is : (byte : ℕ) → is_ascii_digit byte ≡ true → digit_value byte ≡ byte - 48
digit_is byte h = grind (arith, nat_tests)

pub value_after_ge : (n : ℕ) (digits : List ℕ) → n ≤ digits_value_after 10 n digits
value_after_ge n [] = omega arith
value_after_ge n (digit ∷ digits) = omega (arith, value_after_ge (n * 10 + digit_value digit) digits)

-- the first of some digits
pub value_after_more : (n : ℕ) (digits : List ℕ) → 0 < length digits → n * 10 + digit_value (get_or digits 0 0) ≤ digits_value_after 10 n digits
value_after_more n [] h = absurd (omega arith)
value_after_more n (digit ∷ digits) h = value_after_ge (n * 10 + digit_value digit) digits

pub not_all_digits : (digits : List ℕ) → 0 < length digits → is_ascii_digit (get_or digits 0 0) ≡ false → all_ascii_digits digits ≡ false
not_all_digits [] h e = absurd (omega arith)
not_all_digits (digit ∷ digits) h e = and_left _ _ e

pub no_more_digits : (n : ℕ) (digits : List ℕ) → length digits < 1 → (digits_value_after 10 n digits ≡ n) × (all_ascii_digits digits ≡ true)
no_more_digits n [] h = (refl, refl)
no_more_digits n (digit ∷ digits) h = absurd (omega arith)

-- where a text writes no number
pub no_number_empty : (limit : ℕ) (text : List ℕ) → length text ≡ 0 → None ≡ number_up_to limit text
unfolding number_up_to
no_number_empty limit [] h = refl
no_number_empty limit (byte ∷ bytes) h = absurd (omega arith)

pub no_number_digits : (limit : ℕ) (text : List ℕ) → all_ascii_digits text ≡ false → None ≡ number_up_to limit text
unfolding number_up_to
no_number_digits limit text h = sym (cond-false _ _ _ (and_left _ _ (and_right _ _ h)))

pub no_number_large : (limit : ℕ) (text : List ℕ) → limit < digits_value 10 text → None ≡ number_up_to limit text
unfolding number_up_to
no_number_large limit text h = sym (cond-false _ _ _ (and_right _ _ (lt-leb _ _ h)))

pub is_number : (limit : ℕ) (text : List ℕ) → 0 < length text → all_ascii_digits text ≡ true → digits_value 10 text ≤ limit → Some (digits_value 10 text) ≡ number_up_to limit text
unfolding number_up_to
is_number limit text h d l = sym (cond-true _ _ _ (and_from _ _ (and_from _ _ (lt-ltb _ _ h) d) (le-leb _ _ l)))

abbrev is_numeral : List ℕ → Bool
is_numeral text = nat_lt 0 (length text) && all_ascii_digits text

chosen : (a b : Bool) (n v : ℕ) → Some n ≡ cond {A = Option ℕ} (a && b) (Some v) None → (a ≡ true) × (n ≡ v)
chosen true true n v e = (refl, cc)
chosen true false n v e = cc
chosen false b n v e = cc

left_out : (a b : Bool) (v : ℕ) → None ≡ cond {A = Option ℕ} (a && b) (Some v) None → (a && b) ≡ false
left_out true true v e = cc
left_out true false v e = refl
left_out false b v e = refl

-- a limit below another
pub number_fits : (limit more n : ℕ) (text : List ℕ) → limit ≤ more → Some n ≡ number_up_to more text → n ≤ limit → Some n ≡ number_up_to limit text
unfolding number_up_to
number_fits limit more n text h e l =
    let is = chosen (is_numeral text) (nat_le (digits_value 10 text) more) n (digits_value 10 text) e in
    ap Some is.1 ∙ sym (cond-true _ _ _ (and_from _ _ is.0 (le-leb (digits_value 10 text) limit (omega (arith, is.1)))))

pub number_past : (limit more n : ℕ) (text : List ℕ) → limit ≤ more → Some n ≡ number_up_to more text → limit < n → None ≡ number_up_to limit text
unfolding number_up_to
number_past limit more n text h e l =
    let is = chosen (is_numeral text) (nat_le (digits_value 10 text) more) n (digits_value 10 text) e in
    sym (cond-false _ _ _ (and_right _ _ (lt-leb (digits_value 10 text) limit (omega (arith, is.1)))))

pub no_number : (limit more : ℕ) (text : List ℕ) → limit ≤ more → None ≡ number_up_to more text → None ≡ number_up_to limit text
unfolding number_up_to
no_number limit more text h e = by (and_cases _ _ (left_out (is_numeral text) (nat_le (digits_value 10 text) more) (digits_value 10 text) e))
  where
    by : (is_numeral text ≡ false) ⊎ (nat_le (digits_value 10 text) more ≡ false) → None ≡ number_up_to limit text
    by (inl a) = sym (cond-false _ _ _ (and_left _ _ a))
    by (inr b) = sym (cond-false _ _ _ (and_right _ _ (lt-leb (digits_value 10 text) limit (omega (arith, leb-false _ _ b)))))

-- an empty text is no value
pub value_none : (text : List ℕ) → length text ≡ 0 → None ≡ integer_of text
unfolding integer_of
value_none [] h = refl
value_none (byte ∷ bytes) h = absurd (omega arith)

-- a value with a minus in front
pub value_minus_none : (text digits : List ℕ) (first : ℕ) → text ≡ first ∷ digits → first ≡ 45 → None ≡ number_up_to (2 ^ 64 - 1) digits → None ≡ integer_of text
unfolding integer_of
value_minus_none text digits first is minus e =
    let there : (first == 45) ≡ true = eq-eqb first 45 minus in
    rw is (rw there (ap (option_map (λ n. neg_ℤ (pos n))) (no_number (2 ^ 63) (2 ^ 64 - 1) digits (omega arith) e)))

minus_value : (digits : List ℕ) (n : ℕ) (value : Option ℤ) → Some n ≡ number_up_to (2 ^ 64 - 1) digits → SomeIff value (FitsSigned w64 (pos 0 -ℤ pos n)) (pos 0 -ℤ pos n) → value ≡ option_map (λ m. neg_ℤ (pos m)) (number_up_to (2 ^ 63) digits)
minus_value digits n None e h =
    let large : 2 ^ 63 < n = by (cases_lt (2 ^ 63) n) in
    ap (option_map (λ m. neg_ℤ (pos m))) (number_past (2 ^ 63) (2 ^ 64 - 1) n digits (omega arith) e large)
  where
    by : (2 ^ 63 < n) ⊎ (n ≤ 2 ^ 63) → 2 ^ 63 < n
    by (inl large) = large
    by (inr small) = absurd (h (omega (arith, ints)))
minus_value digits n (Some z) e h =
    let small : n ≤ 2 ^ 63 = omega (arith, ints, h.0) in
    let same : z ≡ neg_ℤ (pos n) = omega (arith, ints, h.1) in
    ap Some same ∙ ap (option_map (λ m. neg_ℤ (pos m))) (number_fits (2 ^ 63) (2 ^ 64 - 1) n digits (omega arith) e small)

pub value_minus : (text digits : List ℕ) (first n : ℕ) (value : Option ℤ) → text ≡ first ∷ digits → first ≡ 45 → Some n ≡ number_up_to (2 ^ 64 - 1) digits → SomeIff value (FitsSigned w64 (pos 0 -ℤ pos n)) (pos 0 -ℤ pos n) → value ≡ integer_of text
unfolding integer_of
value_minus text digits first n value is minus e h =
    let there : (first == 45) ≡ true = eq-eqb first 45 minus in
    rw is (rw there (minus_value digits n value e h))

-- and one without
pub value_plain_none : (text digits : List ℕ) (first : ℕ) → text ≡ first ∷ digits → first ≢ 45 → None ≡ number_up_to (2 ^ 64 - 1) text → None ≡ integer_of text
unfolding integer_of
value_plain_none text digits first is ne e =
    let plain : (first == 45) ≡ false = ne_eqb first 45 ne in
    rw is (rw plain (ap (option_map pos) (no_number (2 ^ 63 - 1) (2 ^ 64 - 1) (first ∷ digits) (omega arith) (rw is at e))))

plain_value : (text : List ℕ) (n : ℕ) (value : Option ℤ) → Some n ≡ number_up_to (2 ^ 64 - 1) text → SomeIff value (FitsSigned w64 (pos 0 +ℤ pos n)) (pos 0 +ℤ pos n) → value ≡ option_map pos (number_up_to (2 ^ 63 - 1) text)
plain_value text n None e h =
    let large : 2 ^ 63 - 1 < n = by (cases_lt (2 ^ 63 - 1) n) in
    ap (option_map pos) (number_past (2 ^ 63 - 1) (2 ^ 64 - 1) n text (omega arith) e large)
  where
    by : (2 ^ 63 - 1 < n) ⊎ (n ≤ 2 ^ 63 - 1) → 2 ^ 63 - 1 < n
    by (inl large) = large
    by (inr small) = absurd (h (omega (arith, ints)))
plain_value text n (Some z) e h =
    let small : n ≤ 2 ^ 63 - 1 = omega (arith, ints, h.0) in
    let same : z ≡ pos n = omega (arith, ints, h.1) in
    ap Some same ∙ ap (option_map pos) (number_fits (2 ^ 63 - 1) (2 ^ 64 - 1) n text (omega arith) e small)

pub value_plain : (text digits : List ℕ) (first n : ℕ) (value : Option ℤ) → text ≡ first ∷ digits → first ≢ 45 → Some n ≡ number_up_to (2 ^ 64 - 1) text → SomeIff value (FitsSigned w64 (pos 0 +ℤ pos n)) (pos 0 +ℤ pos n) → value ≡ integer_of text
unfolding integer_of
value_plain text digits first n value is ne e h =
    let plain : (first == 45) ≡ false = ne_eqb first 45 ne in
    rw is (rw plain (plain_value (first ∷ digits) n value (rw is at e) h))
