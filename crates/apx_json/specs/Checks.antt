-- Readings and checks that stop at the first thing that is refused.
use Rattle.std.specs.Prelude.{◌≡◌, Result, Ok, Err}

-- what is there goes on to the next reading; the first refusal stays
infixl 10 ◌>>=◌
abbrev pub ◌>>=◌ : {E X Y : Type 0} → Result X E → (X → Result Y E) → Result Y E
(Ok x) >>= f = f x
(Err e) >>= f = Err e

-- what a function returned is what a definition gives: its value, seen by `view`, or an error of which `Fails` says what it means
abbrev pub Gives : {X Y E F : Type 0} → (E → Result Y F → Type 0) → (X → Y) → Result X E → Result Y F → Type 0
Gives Fails view (Ok x) given = given ≡ Ok (view x)
Gives Fails view (Err e) given = Fails e given
