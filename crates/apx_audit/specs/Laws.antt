-- What holds of the verdicts on any text, for any plan.
use Rattle.std.specs.Prelude.{◌≡◌, ℕ, List}
use Rattle.apx_history.specs.declared.Entry.{Entry}
use Rattle.apx_history.specs.Plan.{Plan}
use Rattle.apx_history.specs.Journals.{beginning, after}
use Rattle.apx_history.specs.Kept.{IsPlan}
use Rattle.apx_history.specs.Laws.{IsAtEnd}
use Rattle.apx_audit.specs.declared.audited.AuditEnd.TheVariants.{Ended}
use Rattle.apx_audit.specs.Verdict.{IsJournal, end_of, Verdict, IsVerdict}

-- a text has a verdict, where the plan is one of a job
abbrev pub SomeVerdict : Type 0
SomeVerdict = (plan : Plan) → IsPlan plan → (text : List ℕ) → (v : Verdict) × IsVerdict plan text v

-- and no other one
abbrev pub OneVerdict : Type 0
OneVerdict = (plan : Plan) (text : List ℕ) (v w : Verdict) → IsVerdict plan text v → IsVerdict plan text w → v ≡ w

-- A legal journal that ends with the end of the run is whole: each window is stored, the last checkpoint is committed, and each
-- line of the script was met once.
abbrev pub EndedIsWhole : Type 0
EndedIsWhole = (plan : Plan) (text : List ℕ) (es : List Entry) → IsJournal plan text es → end_of es ≡ Ended →
    IsAtEnd plan (after plan (beginning plan 0 0) es) es
