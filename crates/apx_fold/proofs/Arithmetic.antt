-- Sums that wrap, the greater and the lesser of two numbers: in whatever order they are taken.
use Rattle.std.proofs.Common.{◌≡◌, ℕ, ℤ, ◌+◌, ◌^◌, ◌%◌, pos, sym, ap, ◌∙◌, arith, add_assoc, add_comm, add-zero}
use mir.Val.{bits}
use Rattle.std.specs.Int.{w64, int_wrapping_add, int_max, int_min, cast_signed, cast_unsigned}
use Rattle.std.proofs.Math.Nat.{add-mod-mod, mod-add-mod}
use Rattle.std.proofs.lemmas.Int.{of_z-to_z, ints, clamps}
use Rattle.std.proofs.lemmas.Nat.{mod_below}

abbrev plus : ℤ → ℤ → ℤ
plus x y = int_wrapping_add w64 x y

abbrev whole : ℕ
whole = 2 ^ bits w64

abbrev low : ℤ → ℕ
low x = cast_unsigned w64 x

low-wrapped : (m : ℕ) → low (cast_signed w64 (m % whole)) ≡ m % whole
low-wrapped m = of_z-to_z w64 (m % whole) (mod_below m whole (omega arith))

left-first : (x y z : ℤ) → plus (plus x y) z ≡ cast_signed w64 ((low x + low y + low z) % whole)
left-first x y z =
    ap (λ n. cast_signed w64 ((n + low z) % whole)) (low-wrapped (low x + low y))
    ∙ ap (λ n. cast_signed w64 n) (mod-add-mod (low x + low y) whole (low z))

right-first : (x y z : ℤ) → plus x (plus y z) ≡ cast_signed w64 ((low x + low y + low z) % whole)
right-first x y z =
    ap (λ n. cast_signed w64 ((low x + n) % whole)) (low-wrapped (low y + low z))
    ∙ ap (λ n. cast_signed w64 n) (add-mod-mod (low x) (low y + low z) whole)
    ∙ ap (λ n. cast_signed w64 (n % whole)) (sym (add_assoc (low x) (low y) (low z)))

pub plus-assoc : (x y z : ℤ) → int_wrapping_add w64 (int_wrapping_add w64 x y) z ≡ int_wrapping_add w64 x (int_wrapping_add w64 y z)
plus-assoc x y z = left-first x y z ∙ sym (right-first x y z)

pub plus-comm : (x y : ℤ) → int_wrapping_add w64 x y ≡ int_wrapping_add w64 y x
plus-comm x y = ap (λ n. cast_signed w64 (n % whole)) (add_comm (low x) (low y))

-- two numbers of tuples, one after the other
pub plus-counts : (x : ℤ) (m n : ℕ) → int_wrapping_add w64 (int_wrapping_add w64 x (pos m)) (pos n) ≡ int_wrapping_add w64 x (pos (m + n))
plus-counts x m n = left-first x (pos m) (pos n) ∙ ap (λ k. cast_signed w64 (k % whole)) (add_assoc (low x) m n)

-- a sum is what it is, and nothing more
pub plus-none : (x y : ℤ) → int_wrapping_add w64 (int_wrapping_add w64 x y) (pos 0) ≡ int_wrapping_add w64 x y
plus-none x y = left-first x y (pos 0) ∙ ap (λ k. cast_signed w64 (k % whole)) (add-zero (low x + low y))

pub max-assoc : (x y z : ℤ) → int_max (int_max x y) z ≡ int_max x (int_max y z)
max-assoc x y z = omega (arith, ints, clamps)

pub max-comm : (x y : ℤ) → int_max x y ≡ int_max y x
max-comm x y = omega (arith, ints, clamps)

pub max-same : (x : ℤ) → int_max x x ≡ x
max-same x = omega (arith, ints, clamps)

pub min-assoc : (x y z : ℤ) → int_min (int_min x y) z ≡ int_min x (int_min y z)
min-assoc x y z = omega (arith, ints, clamps)

pub min-comm : (x y : ℤ) → int_min x y ≡ int_min y x
min-comm x y = omega (arith, ints, clamps)
