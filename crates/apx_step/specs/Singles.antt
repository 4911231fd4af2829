-- Kinds that look at one tuple at a time.
use Rattle.std.specs.Prelude.{ℤ}
use Rattle.std.specs.Int.{int_wrapping_mul, w64}
use Rattle.apx_tuple.specs.declared.tuple.Tuple.{Tuple}

-- the tuple with its value multiplied by the factor
abbrev pub scaled : ℤ → Tuple → Tuple
scaled factor t = record { key = t.key; value = int_wrapping_mul w64 t.value factor }
