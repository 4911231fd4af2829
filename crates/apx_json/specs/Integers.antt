-- The integers that properties give.
use Rattle.std.specs.Prelude.{ℤ, Option, Some, None}
use Rattle.apx_decimal.specs.Decimal.{integer_of}
use Rattle.apx_json.specs.declared.text.PropertyValue.{PropertyValue}
use Rattle.apx_json.specs.declared.text.PropertyValue.TheVariants.{Number, Text, Other}

-- the integer that a property gives, as a number or in digits
abbrev pub integer_in : PropertyValue → Option ℤ
integer_in (Number n) = Some n
integer_in (Text text) = integer_of text
integer_in Other = None
