-- Causes over several calls.
use Rattle.std.proofs.Common.{ℕ, ◌≤◌, ◌⊎◌, inl, inr, arith}
use Rattle.apx_cause.specs.Cause.{Rose, HasCause}

-- a count that rose since a later time rose since an earlier one
pub Rose-from : (before mid now : ℕ) → before ≤ mid → Rose mid now → Rose before now
Rose-from before mid now later rose = omega (arith, rose)

-- a count that rose by some time has risen at a later one
pub Rose-to : (before mid now : ℕ) → mid ≤ now → Rose before mid → Rose before now
Rose-to before mid now later rose = omega (arith, rose)

-- no call, no fault
pub cause_none : (now : ℕ) → HasCause now now ⊥
cause_none now = record { later = omega arith; rose = λ never. absurd never }

-- one call, and then another
pub cause_then : {F G : Type 0} (before mid now : ℕ) → HasCause before mid F → HasCause mid now G → HasCause before now (F ⊎ G)
cause_then before mid now first second = record {
  later = let a = first.later in let b = second.later in omega arith;
  rose = λ fault. elim fault [
    | inl f ↦ Rose-to before mid now second.later (first.rose f)
    | inr g ↦ Rose-from before mid now first.later (second.rose g)
  ];
}

-- a fault that comes only with another has that one's cause
pub cause_weaker : {F G : Type 0} (before now : ℕ) → (G → F) → HasCause before now F → HasCause before now G
cause_weaker before now only cause = record { later = cause.later; rose = λ g. cause.rose (only g) }
