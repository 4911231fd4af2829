-- What contracts see of a seat and of a turn.
use Rattle.std.specs.Prelude.{◌≡◌, ℕ, Bool, true, false, List, [], ◌∷◌, length, Option, Some, None}
use Rattle.atomic_table.specs.Seated.{TableId}
use Rattle.apx_lock.specs.declared.rule.Terms.{Terms}
use Rattle.apx_lock.specs.declared.view.View.{View}

-- which table a seat is of, and what it knows
pub record Seated (N E : Type 0) : Type 0 where
  -- the table under the lock
  pub table : TableId
  -- what the seat knows
  pub view : View N E

-- what a seat carries: the empty slot, while it holds the turn
abbrev pub carried : {V : Type 0} → Bool → List (ℕ × Option V)
carried true = (0, None) ∷ []
carried false = []

-- the seat is of the table with these terms
abbrev pub IsSeatOf : {N E : Type 0} → TableId → Terms N → Seated N E → Type 0
IsSeatOf table terms s = (s.table ≡ table) × (s.view.name ≡ Some terms.name) × (length s.view.marks ≡ terms.marks)

-- the turn is one of the seat's: at that table, with these terms, where the seat had seen so many entries
abbrev pub IsTurnOf : {N E : Type 0} → TableId → Terms N → ℕ → Seated N E → Type 0
IsTurnOf table terms base s = IsSeatOf table terms s × (base ≡ length s.view.seen)
