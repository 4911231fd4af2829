-- Decimal numbers.
--     number_up_to limit digits    the number that digits write
--     integer_of text              the number that an optional minus and digits write
use Rattle.std.specs.Prelude.{ℕ, ◌-◌, ◌^◌, ◌==◌, ◌&&◌, nat_lt, nat_le, cond, List, [], ◌∷◌, length, ℤ, pos, neg_ℤ, Option, Some, None}
use Rattle.std.specs.Option.{option_map}
use Rattle.std.specs.Str.{all_ascii_digits}
use Rattle.std.specs.Str.Parse.{digits_value}

-- the number that one or more digits write, where it is no more than the limit
unfoldable pub number_up_to : ℕ → List ℕ → Option ℕ
number_up_to limit digits =
    cond (nat_lt 0 (length digits) && all_ascii_digits digits && nat_le (digits_value 10 digits) limit)
    (Some (digits_value 10 digits))
    None

-- the number that an optional minus, byte 45, and one or more digits write, in the range of i64
unfoldable pub integer_of : List ℕ → Option ℤ
integer_of [] = None
integer_of (byte ∷ bytes) =
    cond (byte == 45)
    (option_map (λ n. neg_ℤ (pos n)) (number_up_to (2 ^ 63) bytes))
    (option_map pos (number_up_to (2 ^ 63 - 1) (byte ∷ bytes)))
