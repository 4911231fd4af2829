use Rattle.std.proofs.Common.{◌≡◌, ◌<◌, ◌^◌, length}
use Rattle.std.specs.Str.{all_ascii_digits}
use Rattle.std.specs.Str.Parse.{digits_value, digits_value_after}
use Rattle.apx_decimal.proofs.natural.Given as goal

abbrev pub invariant-loop-digits : goal.invariant-loop-digits
invariant-loop-digits l = record {
  value : digits_value_after 10 l.number l.digits ≡ digits_value 10 l.text;
  digits : all_ascii_digits l.digits ≡ all_ascii_digits l.text;
  fits : l.number < 2 ^ 64;
}

abbrev pub decreases-loop-digits : goal.decreases-loop-digits
decreases-loop-digits l = length l.digits
