-- Reading a pair: the cut at the last tab, and the number that digits write.
use Rattle.std.proofs.Common.{◌≡◌, ◌≢◌, ℕ, ℤ, ◌+◌, ◌-◌, ◌<◌, ◌≤◌, ◌==◌, Bool, true, false, cond, List, [], ◌∷◌, length, take, drop, get_or, Option, Some, None, refl, sym, arith, zero, suc}
use Rattle.std.proofs.lemmas.List.{drop_all, drop_more}
use borrow.Author.Tests.{eqb-true}
use Rattle.std.proofs.lemmas.Bool.{eq-eqb}
use Rattle.apx_pass.specs.Pairs.{at_last_tab, pair_of}
use Rattle.apx_decimal.specs.Decimal.{integer_of}

-- there is no tab behind the end
pub no_tab_at_end : (line : List ℕ) (at : ℕ) → length line ≤ at → at_last_tab (drop at line) ≡ None
unfolding at_last_tab
no_tab_at_end line at h = rw (drop_all at line h) refl

-- a byte that is no tab before bytes without one
pub no_tab_before : (line : List ℕ) (at : ℕ) → at < length line → get_or line at 0 ≢ 9 → at_last_tab (drop (at + 1) line) ≡ None → at_last_tab (drop at line) ≡ None
unfolding at_last_tab
no_tab_before line at h ne none = rw (drop_more line at 0 h) (rw none (by (get_or line at 0 == 9) refl))
  where
    by : (b : Bool) → (get_or line at 0 == 9) ≡ b → cond {A = Option (List ℕ × List ℕ)} b (Some ([], drop (at + 1) line)) None ≡ None
    by true e = absurd (ne (eqb-true _ _ e))
    by false e = refl

-- the last tab
pub tab_last : (line : List ℕ) (at : ℕ) → at < length line → get_or line at 0 ≡ 9 → at_last_tab (drop (at + 1) line) ≡ None → at_last_tab line ≡ Some (take at line, drop (at + 1) line)
unfolding at_last_tab
tab_last [] at h is none = absurd (omega arith)
tab_last (byte ∷ bytes) zero h is none =
    let e : (byte == 9) ≡ true = eq-eqb byte 9 is in
    let n : at_last_tab bytes ≡ None = none in
    rw (n, e) refl
tab_last (byte ∷ bytes) (suc at) h is none =
    let behind : drop (suc at + 1) (byte ∷ bytes) ≡ drop (at + 1) bytes = (let e : suc at + 1 ≡ suc (at + 1) = omega arith in rw e refl) in
    let n : at_last_tab (drop (at + 1) bytes) ≡ None = rw behind at none in
    rw (tab_last bytes at (omega arith) is n, behind) refl

-- the same for a place one before another
pub tab_just_before : (line : List ℕ) (at : ℕ) → 0 < at → at ≤ length line → get_or line (at - 1) 0 ≡ 9 → at_last_tab (drop at line) ≡ None → at_last_tab line ≡ Some (take (at - 1) line, drop at line)
tab_just_before line zero p h is none = absurd (omega arith)
tab_just_before line (suc at) p h is none =
    let place : suc at - 1 ≡ at = omega arith in
    let next : at + 1 ≡ suc at = omega arith in
    rw place (rw next at (tab_last line at (omega arith) (rw place at is) (rw next none)))

pub no_tab_just_before : (line : List ℕ) (at : ℕ) → 0 < at → at ≤ length line → get_or line (at - 1) 0 ≢ 9 → at_last_tab (drop at line) ≡ None → at_last_tab (drop (at - 1) line) ≡ None
no_tab_just_before line zero p h ne none = absurd (omega arith)
no_tab_just_before line (suc at) p h ne none =
    let place : suc at - 1 ≡ at = omega arith in
    let next : at + 1 ≡ suc at = omega arith in
    rw place (no_tab_before line at (omega arith) (rw place at ne) (rw next none))

-- a pair is a cut and a value
pub pair_none : (line : List ℕ) → None ≡ at_last_tab line → None ≡ pair_of line
unfolding pair_of
pair_none line e = rw (sym e) refl

pub pair_value_none : (line key text : List ℕ) → Some (key, text) ≡ at_last_tab line → None ≡ integer_of text → None ≡ pair_of line
unfolding pair_of
pair_value_none line key text e v = rw (sym e) (rw (sym v) refl)

pub pair_is : (line key text : List ℕ) (value : ℤ) → Some (key, text) ≡ at_last_tab line → Some value ≡ integer_of text → Some (record { key = key; value = value }) ≡ pair_of line
unfolding pair_of
pair_is line key text value e v = rw (sym e) (rw (sym v) refl)
