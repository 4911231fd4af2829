-- When a device may tell a fault.
use Rattle.std.specs.Prelude.{ℕ, ◌+◌, ◌-◌, ◌^◌, ◌≤◌, min}

-- the count rose: it is higher, or stands at the last value of a u64
abbrev pub Rose : ℕ → ℕ → Type 0
Rose before now = min (before + 1) (2 ^ 64 - 1) ≤ now

-- the count doesn't fall, and the fault comes only where it rose
pub record HasCause (before now : ℕ) (fault : Type 0) : Type 0 where
  -- the count doesn't fall
  pub later : before ≤ now
  -- the fault comes only where the count rose
  pub rose : fault → Rose before now
