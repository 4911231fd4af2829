-- Sets of operators as bits.
use Rattle.std.specs.Prelude.{ℕ, zero, suc, ◌+◌, ◌^◌, Bool, cond}

-- the numbers below n that pass, as a set: number k is the bit of 2 ^ k
unfoldable pub set_of : ℕ → (ℕ → Bool) → ℕ
set_of zero p = 0
set_of (suc n) p = cond (p n) (2 ^ n) 0 + set_of n p
