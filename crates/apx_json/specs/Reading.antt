-- What reading an application answers.
use Rattle.std.specs.Prelude.{◌≡◌, ℕ, List, Some, Result, Ok, Err, IsUtf8}
use Rattle.serde_json.specs.Data.{Data}
use Rattle.serde_json.specs.Read.{read}
use Rattle.apx_json.specs.declared.refusal.JsonRefusal.{JsonRefusal}
use Rattle.apx_json.specs.declared.refusal.JsonRefusal.TheVariants.{Syntax, Shape, Memory}
use Rattle.apx_json.specs.Texts.{Application}
use Rattle.apx_json.specs.Shape.{application_of}

-- the bytes are a JSON text of this value
abbrev pub IsJson : List ℕ → Data → Type 0
IsJson bytes d = IsUtf8 bytes × (read bytes ≡ Some d)

-- An application or a place is that of the value that the bytes are, and
-- `Syntax` says that they are none.
abbrev pub Reads : List ℕ → Result Application JsonRefusal → Type 0
Reads bytes (Ok app) = (d : Data) × IsJson bytes d × (application_of d ≡ Ok app)
Reads bytes (Err Memory) = Unit {0}
Reads bytes (Err Syntax) = (d : Data) → ¬ IsJson bytes d
Reads bytes (Err (Shape place)) = (d : Data) × IsJson bytes d × (application_of d ≡ Err place)
