-- Whether devices tell.
use Rattle.std.proofs.Common.{Bool, true, false, ◌&&◌, Result, Ok, Err, IsTrue}
use Rattle.std.specs.Prelude.{IfOk}

-- where two tell, each does
pub both_told : (a b : Bool) → IsTrue (a && b) → IsTrue a × IsTrue b
both_told true true h = (h, h)
both_told true false h = absurd (cc h)
both_told false b h = absurd (cc h)

-- what follows from what a call answers
pub if_ok : {A E : Type 0} {P Q : A → Type 0} (r : Result A E) → ((a : A) → P a → Q a) → IfOk r P → IfOk r Q
if_ok (Ok a) f h = f a h
if_ok (Err e) f h = h
