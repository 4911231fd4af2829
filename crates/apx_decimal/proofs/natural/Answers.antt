use Rattle.std.proofs.Common.{◌≡◌, ◌<◌, ◌^◌, ◌-◌, arith, sym, ◌∙◌, ap, Some, length, get_or, eqb-true}
use Rattle.std.proofs.lemmas.Bool.{eqb-false}
use Rattle.std.specs.Str.Parse.{digits_value}
use Rattle.apx_decimal.proofs.Numbers.{no_number_empty, no_number_digits, no_number_large, not_all_digits, no_more_digits, is_number, value_after_more, digit_is}
use Rattle.apx_decimal.proofs.natural.Goals as goal

pub returns-then-is_empty : goal.returns-then-is_empty
returns-then-is_empty c = no_number_empty _ c.args.text.now (eqb-true _ _ (sym c.is_empty.ensures ∙ c.if-is_empty.true))

pub returns-then-not-is_ascii_digit : goal.returns-then-not-is_ascii_digit
returns-then-not-is_ascii_digit c =
    no_number_digits _ c.args.text.now (sym c.loop-digits.invariant.digits ∙ not_all_digits c.loop-digits.digits.now c.in-len1-up.len_at_least (sym c.is_ascii_digit.ensures.value ∙ c.if-not-is_ascii_digit.true))

pub returns-in_err-checked_mul : goal.returns-in_err-checked_mul
returns-in_err-checked_mul c =
    let more = value_after_more c.loop-digits.number c.loop-digits.digits.now c.in-len1-up.len_at_least in
    let large : 2 ^ 64 - 1 < digits_value 10 c.args.text.now = omega (arith, more, c.loop-digits.invariant.value, c.in_err-checked_mul.ensures) in
    c.from_residual.ensures ∙ no_number_large _ c.args.text.now large

pub returns-in_err-number : goal.returns-in_err-number
returns-in_err-number c =
    let more = value_after_more c.loop-digits.number c.loop-digits.digits.now c.in-len1-up.len_at_least in
    let digit = digit_is (get_or c.loop-digits.digits.now 0 0) (sym c.is_ascii_digit.ensures.value ∙ c.if-not-is_ascii_digit.false) in
    let large : 2 ^ 64 - 1 < digits_value 10 c.args.text.now = omega (arith, more, digit, c.loop-digits.invariant.value, c.in_ok-checked_mul.ensures, c.from.ensures, c.in_err-number.ensures) in
    c.from_residual-in_err-number.ensures ∙ no_number_large _ c.args.text.now large

pub returns : goal.returns
returns c =
    let none = no_more_digits c.loop-digits.number c.loop-digits.digits.now c.in_default.len_below in
    let value : digits_value 10 c.args.text.now ≡ c.loop-digits.number = sym c.loop-digits.invariant.value ∙ none.0 in
    let some = eqb-false (length c.args.text.now) 0 (sym c.is_empty.ensures ∙ c.if-is_empty.false) in
    ap Some (sym value) ∙ is_number _ c.args.text.now (omega (arith, some)) (sym c.loop-digits.invariant.digits ∙ none.1) (omega (arith, value, c.loop-digits.invariant.fits))
