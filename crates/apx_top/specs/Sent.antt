-- How much of a text an output has got.
use Rattle.std.specs.Prelude.{◌≡◌, ℕ, Bool, IsTrue, List, ◌++◌, Result, Ok, Err}
use Rattle.apx_device.specs.Out.{GotFront}

-- after an Ok the output has got the text, and else a front of it, where it tells what it has got
abbrev pub HasWritten : {T E : Type 0} → Bool → List ℕ → Result T E → List ℕ → List ℕ → Type 0
HasWritten tells text (Ok _) before now = IsTrue tells → now ≡ before ++ text
HasWritten tells text (Err _) before now = IsTrue tells → GotFront text before now
