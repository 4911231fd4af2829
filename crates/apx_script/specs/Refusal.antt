-- What is refused of a script.
use Rattle.std.specs.Prelude.{◌≡◌, Result, Ok, Err, ⊤}
use Rattle.apx_pass.specs.Script.{RefusedLine}
use Rattle.apx_json.specs.Checks as checks
use Rattle.apx_script.specs.declared.refusal.ScriptRefusal.{ScriptRefusal}
use Rattle.apx_script.specs.declared.refusal.ScriptRefusal.TheVariants as refusal

-- an error says that its line is the first that is refused, and why; want of memory says nothing
abbrev pub Fails : {X : Type 0} → ScriptRefusal → Result X RefusedLine → Type 0
Fails (refusal.Line line why) given = given ≡ Err (record { line = line; why = why })
Fails refusal.Memory given = ⊤

-- what a function returned, seen by view, is what a definition gives, unless memory ran out
abbrev pub Gives : {X Y : Type 0} → (X → Y) → Result X ScriptRefusal → Result Y RefusedLine → Type 0
Gives = checks.Gives Fails
