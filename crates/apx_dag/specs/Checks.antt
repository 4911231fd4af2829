-- Checks that refuse by the first rule that is broken.
use Rattle.std.specs.Prelude.{◌≡◌, ℕ, List, Option, Some, None, Result, Ok, Err, ⊤}
use Rattle.apx_json.specs.Checks as checks
use Rattle.apx_dag.specs.declared.refusal.AppRefusal.{AppRefusal}
use Rattle.apx_dag.specs.declared.refusal.AppRefusal.TheVariants.{Refused, Memory}

-- nothing to refuse, or a rule's number and the place that breaks it
abbrev pub Checked : Type 0
Checked = Result ⊤ (ℕ × List ℕ)

-- a rule, and the place that breaks it, if there is one
unfoldable pub unless : ℕ → Option (List ℕ) → Checked
unless code None = Ok tt
unless code (Some place) = Err (code, place)

-- an error says that its rule is the first that is broken, and where; want of memory says nothing
abbrev pub Fails : AppRefusal → Checked → Type 0
Fails Memory checked = Unit {0}
Fails (Refused code place) checked = checked ≡ Err (code, place)

-- what a function returned is what the checks give, unless memory ran out
abbrev pub Gives : Result ⊤ AppRefusal → Checked → Type 0
Gives = checks.Gives Fails (λ x. x)
