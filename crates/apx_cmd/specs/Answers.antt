-- What reading words answers.
use Rattle.std.specs.Prelude.{◌≡◌, true, is_some, Option, Some, None, Result, Ok, Err}
use Rattle.apx_cmd.specs.declared.refusal.CommandRefusal.{CommandRefusal}
use Rattle.apx_cmd.specs.declared.refusal.CommandRefusal.TheVariants.{Usage, Memory}

-- an answer is what the words tell; `Usage` comes exactly where they tell nothing, and want of memory only where they tell something
abbrev pub Answers : {X : Type 0} → Option X → Result X CommandRefusal → Type 0
Answers told (Ok x) = told ≡ Some x
Answers told (Err Usage) = told ≡ None
Answers told (Err Memory) = is_some told ≡ true
