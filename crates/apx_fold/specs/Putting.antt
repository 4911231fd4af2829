-- What is made of the number that stands for a key's values in a window.
use Rattle.std.specs.Prelude.{ℕ, Bool, true, false, cond, not, ℤ, pos, List, [], ◌∷◌, Option, is_some, unwrap_or}
use Rattle.std.specs.Int.{int_wrapping_add, int_max, w64}
use Rattle.apx_tuple.specs.declared.kind.Kind.{Kind}
use Rattle.apx_tuple.specs.declared.kind.Kind.TheVariants.{Peak, First, Tumble}
use Rattle.apx_tuple.specs.declared.tuple.Tuple.{Tuple}
use Rattle.apx_rules.specs.Rule.{rose}

-- the entry that the key has from then on
unfoldable pub entry_after : Kind → Option ℤ → ℤ → ℤ
entry_after Peak before number = int_max (unwrap_or before number) number
entry_after First before number = pos 1
entry_after kind before number = int_wrapping_add w64 (unwrap_or before (pos 0)) number

-- whether the key is told, by its entries before and after
unfoldable pub is_told : Kind → Option ℤ → ℤ → Bool
is_told Peak before after = rose before after
is_told First before after = not (is_some before)
is_told (Tumble every) before after = false
is_told kind before after = true

-- the value with which it is told
unfoldable pub told_value : Kind → ℤ → ℤ → ℤ
told_value First after number = number
told_value kind after number = after

-- what is told of the key
abbrev pub told_of_number : Kind → List ℕ → Option ℤ → ℤ → List Tuple
told_of_number kind key before number =
    let after = entry_after kind before number in
    cond (is_told kind before after) (record { key = key; value = told_value kind after number } ∷ []) []
