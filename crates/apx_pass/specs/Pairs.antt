-- The tuple of a line.
--     at_last_tab line       what stands before the last tab, byte 9, and what stands after it
--     tuple_of kind line     the tuple that an input operator of the kind makes of the line, if it can
use Rattle.std.specs.Prelude.{ℕ, ◌==◌, cond, List, [], ◌∷◌, pos, Option, Some, None}
use Rattle.std.specs.Option.{option_map, option_or, option_and_then}
use Rattle.apx_decimal.specs.Decimal.{integer_of}
use Rattle.apx_tuple.specs.declared.kind.InputKind.{InputKind}
use Rattle.apx_tuple.specs.declared.kind.InputKind.TheVariants.{Lines, Pairs}
use Rattle.apx_tuple.specs.declared.tuple.Tuple.{Tuple}

-- what stands before the last tab, and what stands after it
unfoldable pub at_last_tab : List ℕ → Option (List ℕ × List ℕ)
at_last_tab [] = None
at_last_tab (byte ∷ bytes) =
    option_or
    (option_map (λ parts. (byte ∷ parts.0, parts.1)) (at_last_tab bytes))
    (cond (byte == 9) (Some ([], bytes)) None)

-- the key stands before the last tab, and the value after it
unfoldable pub pair_of : List ℕ → Option Tuple
pair_of line =
    option_and_then (λ parts. option_map (λ value. record { key = parts.0; value = value }) (integer_of parts.1)) (at_last_tab line)

-- of `lines` the whole line is the key, and the value is 1
unfoldable pub tuple_of : InputKind → List ℕ → Option Tuple
tuple_of Lines line = Some (record { key = line; value = pos 1 })
tuple_of Pairs line = pair_of line
