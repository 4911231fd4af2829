-- The number that digits without a leading zero write.
use Rattle.std.proofs.Common.{◌≡◌, ℕ, ◌^◌, ◌<◌, ◌≤◌, ◌==◌, ◌&&◌, nat_lt, nat_le, not, Bool, true, false, cond, List, [], ◌∷◌, length, get_or, decimal, Option, Some, None, refl, sym, ap, ◌∙◌, arith, eqb-true}
use Rattle.std.specs.Str.{all_ascii_digits}
use Rattle.std.specs.Str.Parse.{digits_value}
use Rattle.std.specs.Char.{is_ascii_digit}
use Rattle.std.proofs.lemmas.Bool.{and_parts, and_from, and_right, lt-ltb, le-leb, eq-eqb, ne_eqb, cond-true, cond-false, false≢true}
use Rattle.std.proofs.lemmas.Option.{cond_some}
use Rattle.std.proofs.lemmas.Str.Parse.{IsNumeralModel, numerals_by_value, tells_all_ascii_digits}
use Rattle.std.proofs.lemmas.Fmt.{decimal_nonempty, decimal_digit, first_decimal, digits_decimal, digits_value-decimal, decimal-digits_value}
use borrow.Author.Tests.{ltb-true, ltb-false, leb-true}
use Rattle.apx_decimal.specs.Decimal.{number_up_to}
use Rattle.apx_audit.specs.Reading.{has_leading_zero, number_of}
use Rattle.apx_audit.proofs.Words.{is_free}

own : IsNumeralModel (λ ds. all_ascii_digits ds ≡ true) (digits_value 10)
own = numerals_by_value _ tells_all_ascii_digits

-- a digit is no other byte
other_byte : (c d : ℕ) → is_ascii_digit c ≡ false → is_ascii_digit d ≡ true → not (d == c) ≡ true
other_byte c d other digit = by (d == c) refl
  where
    by : (b : Bool) → (d == c) ≡ b → not (d == c) ≡ true
    by true same = absurd (let e : is_ascii_digit d ≡ is_ascii_digit c = ap is_ascii_digit (eqb-true d c same) in false≢true (sym other ∙ (sym e ∙ digit)))
    by false ne = ap not ne

free_digits : (c : ℕ) → is_ascii_digit c ≡ false → (ds : List ℕ) → all_ascii_digits ds ≡ true → is_free c ds ≡ true
free_digits c other [] h = refl
free_digits c other (d ∷ ds) h =
    let parts = and_parts (is_ascii_digit d) (all_ascii_digits ds) h in
    and_from _ _ (other_byte c d other parts.0) (free_digits c other ds parts.1)

-- a byte that is no digit is none of a decimal
pub free-decimal : (c n : ℕ) → is_ascii_digit c ≡ false → n < 2 ^ 64 → is_free c (decimal n) ≡ true
free-decimal c n other small = free_digits c other (decimal n) (digits_decimal own n small)

one_digit : (digits : List ℕ) → has_leading_zero digits ≡ false → 0 < length digits → get_or digits 0 0 ≡ 48 → length digits ≡ 1
one_digit digits plain some zero = by (nat_lt 1 (length digits)) refl
  where
    by : (b : Bool) → nat_lt 1 (length digits) ≡ b → length digits ≡ 1
    by true more = absurd (false≢true (sym plain ∙ and_from _ _ more (eq-eqb _ _ zero)))
    by false few = omega (arith, ltb-false _ _ few)

-- what is read as a number is its decimal
pub number_is : (limit n : ℕ) (digits : List ℕ) → limit < 2 ^ 64 → number_of limit digits ≡ Some n → (digits ≡ decimal n) × (n ≤ limit)
unfolding number_of number_up_to
number_is limit n digits small e = by (has_leading_zero digits) refl e
  where
    value : ℕ
    value = digits_value 10 digits

    written : (nat_lt 0 (length digits) && all_ascii_digits digits && nat_le value limit) ≡ true → value ≡ n →
        has_leading_zero digits ≡ false → (digits ≡ decimal n) × (n ≤ limit)
    written test same plain =
        let tests = and_parts (nat_lt 0 (length digits) && all_ascii_digits digits) (nat_le value limit) test in
        let some = and_parts (nat_lt 0 (length digits)) (all_ascii_digits digits) tests.0 in
        let within : value ≤ limit = leb-true _ _ tests.1 in
        let there : 0 < length digits = ltb-true _ _ some.0 in
        let text : decimal value ≡ digits = decimal-digits_value own digits some.1 there (one_digit digits plain there) (omega arith) in
        (sym text ∙ ap decimal same, omega arith)

    by : (b : Bool) → has_leading_zero digits ≡ b → cond b None (number_up_to limit digits) ≡ Some n → (digits ≡ decimal n) × (n ≤ limit)
    by true zero same = cc
    by false plain same = let is = cond_some _ _ _ same in written is.0 is.1 plain

-- no leading zero stands in a decimal
no_zero : (n : ℕ) → n < 2 ^ 64 → has_leading_zero (decimal n) ≡ false
no_zero n small = by (nat_lt 0 n) refl
  where
    by : (b : Bool) → nat_lt 0 n ≡ b → has_leading_zero (decimal n) ≡ false
    by true some =
        let first : 48 < get_or (decimal n) 0 0 = first_decimal n (ltb-true _ _ some) small in
        and_right (nat_lt 1 (length (decimal n))) (get_or (decimal n) 0 0 == 48)
        (ne_eqb (get_or (decimal n) 0 0) 48 (λ (zero : get_or (decimal n) 0 0 ≡ 48). omega (arith, zero)))
    by false none =
        let zero : n ≡ 0 = omega (arith, ltb-false _ _ none) in
        let digit : decimal n ≡ 48 ∷ [] = ap decimal zero ∙ decimal_digit 0 (omega arith) in
        ap has_leading_zero digit

-- and a decimal is read as its number
pub number_again : (limit n : ℕ) → limit < 2 ^ 64 → n ≤ limit → number_of limit (decimal n) ≡ Some n
unfolding number_of number_up_to
number_again limit n small within =
    let fits : n < 2 ^ 64 = omega arith in
    let value : digits_value 10 (decimal n) ≡ n = digits_value-decimal own n fits in
    let some = lt-ltb _ _ (decimal_nonempty n fits) in
    let test : nat_le (digits_value 10 (decimal n)) limit ≡ true = le-leb _ _ (omega (arith, value)) in
    cond-false _ _ _ (no_zero n fits) ∙ (cond-true _ _ _ (and_from _ _ (and_from _ _ some (digits_decimal own n fits)) test) ∙ ap Some value)
