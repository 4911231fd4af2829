-- The count of a device over several calls.
use Rattle.std.proofs.Common.{◌≡◌, ℕ, ◌≤◌, Result, Ok, Err, ap, sym, ◌∙◌, arith}
use Rattle.apx_device.specs.declared.spool.SpoolsRefusal.{SpoolsRefusal}
use Rattle.apx_device.specs.declared.spool.SpoolsRefusal.TheVariants.{Failed, Memory}
use Rattle.apx_cause.specs.Cause.{Rose, HasCause}

-- a count that rose since a later moment rose since an earlier one
pub rose_later : (before mid now : ℕ) → before ≤ mid → Rose mid now → Rose before now
rose_later before mid now later rose = omega (arith, rose)

-- a call behind others has the cause that it has by itself
pub cause_later : (before mid now : ℕ) (F G : Type 0) → before ≤ mid → HasCause mid now F → (G → F) → HasCause before now G
cause_later before mid now F G later cause same = record { later = omega (arith, later, cause.later); rose = λ g. rose_later before mid now later (cause.rose (same g)) }

-- where nothing failed no cause is owed
pub cause_none : (before now : ℕ) (G : Type 0) → before ≤ now → (G → ⊥) → HasCause before now G
cause_none before now G later none = record { later = later; rose = λ g. absurd (none g) }

pub cause_ok : {T E : Type 0} (before now : ℕ) (x : T) (f : E) → before ≤ now → HasCause before now (Ok x ≡ Err f)
cause_ok before now x f later = cause_none before now (Ok x ≡ Err f) later (λ h. cc)

-- a failure handed on, behind other calls
pub cause_err : {T U E : Type 0} (before mid now : ℕ) (failed : Result T E) (r : Result U E) (x f : E) → before ≤ mid → HasCause mid now (failed ≡ Err f) → failed ≡ Err x → r ≡ Err x → HasCause before now (r ≡ Err f)
cause_err before mid now failed r x f later cause was is =
    cause_later before mid now (failed ≡ Err f) (r ≡ Err f) later cause (λ e. (let h = sym is ∙ e in let same : x ≡ f = (cc h) in was ∙ ap Err same))

-- want of memory isn't a failure of the device
pub cause_memory : {T : Type 0} (before now : ℕ) (r : Result T SpoolsRefusal) → before ≤ now → r ≡ Err Memory → HasCause before now (r ≡ Err Failed)
cause_memory before now r later is = cause_none before now (r ≡ Err Failed) later (λ e. (let h = sym is ∙ e in cc))
