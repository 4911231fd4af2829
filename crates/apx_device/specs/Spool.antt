-- What the calls of a spool leave of what it holds.
use Rattle.std.specs.Prelude.{◌≡◌, ◌≢◌, ℕ, List, Option, Result, Ok, Err}
use Rattle.apx_device.specs.declared.spool.SpoolRefusal.{SpoolRefusal}
use Rattle.apx_device.specs.declared.spool.SpoolRefusal.TheVariants.{Fault, Memory}

-- the pieces under all numbers but this one are as they were
abbrev pub KeepsOthers : (old new : ℕ → Option (List ℕ)) → ℕ → Type 0
KeepsOthers old new number = (other : ℕ) → other ≢ number → new other ≡ old other

-- the spool failed, and told how
abbrev pub IsFault : {T F : Type 0} → Result T (SpoolRefusal F) → Type 0
IsFault (Ok _) = ⊥
IsFault (Err (Fault fault)) = Unit {0}
IsFault (Err Memory) = ⊥
