use Rattle.std.specs.Prelude.{ℕ, ◌+◌, ◌-◌, ◌*◌, ◌/◌, ◌%◌, ◌^◌, ◌≤◌}

-- The ordinals that a window may have.
abbrev pub IsOrdinal : ℕ → Type 0
IsOrdinal ordinal = (1 ≤ ordinal) × (ordinal ≤ 20000)

-- The seconds part of a window's identifier: the base, and 8000 more for each 16000 windows before it.
abbrev pub second_of : ℕ → ℕ → ℕ
second_of base ordinal = base + (ordinal - 1) / 16000 * 8000

-- The counter part: the windows since the last such step.
abbrev pub counter_of : ℕ → ℕ
counter_of ordinal = (ordinal - 1) % 16000

-- A window's identifier has the second as its high half and the counter as its low half.
unfoldable pub identifier_of : ℕ → ℕ → ℕ
identifier_of base ordinal = second_of base ordinal * 2 ^ 32 + counter_of ordinal
