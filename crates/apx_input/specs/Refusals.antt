-- What the refusal of a line reports.
use Rattle.std.specs.Prelude.{◌≡◌, Option, Some}
use Rattle.apx_pass.specs.Groups.{Refused, Cause, TooMany as PastWindows, TooLong as PastLength, BadPair as NoPair}
use Rattle.apx_input.specs.declared.refusal.LineRefusal.{LineRefusal}
use Rattle.apx_input.specs.declared.refusal.LineRefusal.TheVariants.{TooMany, TooLong, BadPair, Memory}

-- the refusal reports the line and the cause; want of memory reports nothing
abbrev pub Reports : LineRefusal → Option Refused → Type 0
Reports (TooMany line) refused = refused ≡ Some (record { line = line; cause = PastWindows })
Reports (TooLong line) refused = refused ≡ Some (record { line = line; cause = PastLength })
Reports (BadPair line) refused = refused ≡ Some (record { line = line; cause = NoPair })
Reports Memory refused = Unit {0}

-- the refusal of a line for its cause
abbrev pub refusal_of : Refused → LineRefusal
refusal_of refused = by refused.cause
  where
    by : Cause → LineRefusal
    by PastWindows = TooMany refused.line
    by PastLength = TooLong refused.line
    by NoPair = BadPair refused.line
