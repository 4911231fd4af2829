-- What is refused of a script for its job.
use Rattle.std.specs.Prelude.{◌≡◌, Option, Some, None, Result, Ok, Err, ⊤}
use Rattle.apx_pass.specs.Script.{RefusedLine}
use Rattle.apx_pass.specs.Job.{Job}
use Rattle.apx_job.specs.Job.{refused_line}
use Rattle.apx_script.specs.declared.refusal.ScriptRefusal.{ScriptRefusal}
use Rattle.apx_script.specs.declared.refusal.ScriptRefusal.TheVariants as refusal

-- Ok says that no line is refused, and an error which one it is and why
abbrev pub Judges : Result ⊤ ScriptRefusal → Option RefusedLine → Type 0
Judges (Ok x) refused = refused ≡ None
Judges (Err (refusal.Line line why)) refused = refused ≡ Some (record { line = line; why = why })
Judges (Err refusal.Memory) refused = ⊥

-- what is made of the parts of a job: it, where no line is refused, or else the first line and its reason, unless memory ran out
abbrev pub Answers : Result Job ScriptRefusal → Job → Type 0
Answers (Ok job) parts = (job ≡ parts) × (refused_line parts ≡ None)
Answers (Err (refusal.Line line why)) parts = refused_line parts ≡ Some (record { line = line; why = why })
Answers (Err refusal.Memory) parts = ⊤
