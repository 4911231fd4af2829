-- The job of an application and its inputs without a script: its dataflow is theirs, and no more of it is refused.
use Rattle.std.proofs.Common.{◌≡◌, ℕ, inl, inr, List, [], refl, sym, ap, subst}
use Rattle.std.specs.Prelude.{Result, Ok, Err, None, MatchResult}
use Rattle.apx_device.specs.Folder.{Answer}
use Rattle.apx_pass.specs.Graph.{Node}
use Rattle.apx_pass.specs.Groups as groups
use Rattle.apx_pass.specs.Job.{Job}
use Rattle.apx_pass.specs.Pass.{Dataflow}
use Rattle.apx_pass.specs.Script.{Line}
use Rattle.apx_script.specs.declared.settings.Settings.{Settings}
use Rattle.apx_job.specs.Job.{refused_line, first_refused_behind}
use Rattle.apx_job.specs.Prepared.{job_of}
use Rattle.apx_load.specs.declared.refusal.Refusal.{Refusal}
use Rattle.apx_load.specs.declared.refusal.Refusal.TheVariants.{RefusedCommand}
use Rattle.apx_load.specs.declared.stop.Stop.{Stop}
use Rattle.apx_load.specs.Refusals.{Reading, by_answers, IsAcceptedRun, IsRunRefusal}
use Rattle.apx_load.specs.Jobs.{IsLineOfJob, IsScriptedRefusal, IsJob, IsJobRefusal}
use Rattle.apx_load.specs.Stops.{IsCaused, reading_causes}
use Rattle.apx_load.proofs.Stopping.{read_first}

none_refused : (nodes : List Node) (inputs : List groups.Input) (settings : Settings) → refused_line (job_of nodes inputs [] settings) ≡ None
unfolding refused_line first_refused_behind
none_refused nodes inputs settings = refl

line_apart : (parts : Job) (r : Refusal) → refused_line parts ≡ None → IsLineOfJob parts r → ⊥
line_apart parts (RefusedCommand line why) none is = let a = none in let b = is in cc
line_apart parts _ none is = absurd is

module _ (reading : Reading) (name : List ℕ) (settings : Settings) where
  -- the dataflow of the job is that of the files
  pub flow_of_job : (job : Job) → IsJob reading name None settings job → IsAcceptedRun reading name job.flow
  flow_of_job job is = subst (λ (flow : Dataflow). IsAcceptedRun reading name flow) (ap (λ (j : Job). j.flow) (sym is.2.is)) is.1

  no_line : (flow : Dataflow) (r : Refusal) → IsScriptedRefusal reading flow None settings r → ⊥
  no_line flow r (inl none) = none
  no_line flow r (inr line) =
      line_apart (job_of flow.nodes flow.inputs line.0 settings) r
      (subst (λ (lines : List Line). refused_line (job_of flow.nodes flow.inputs lines settings) ≡ None) (sym line.1) (none_refused flow.nodes flow.inputs settings)) line.2

  -- what is refused of the job is refused of the files
  pub refusal_of_job : (r : Refusal) → IsJobRefusal reading name None settings r → IsRunRefusal reading name r
  refusal_of_job r (inl run) = run
  refusal_of_job r (inr own) = absurd (no_line own.0 r own.2)

-- what is read is an application and its inputs
pub files_of_job : (name : List ℕ) (settings : Settings) (answers : List Answer) (rose : Type 0) (made : Result Job Stop) → MatchResult made (IsJob (by_answers answers) name None settings) (IsCaused (reading_causes (IsJobRefusal (by_answers answers) name None settings) answers rose)) → MatchResult made (λ job. IsAcceptedRun (by_answers answers) name job.flow) (IsCaused (reading_causes (IsRunRefusal (by_answers answers) name) answers rose))
files_of_job name settings answers rose (Ok job) is = flow_of_job (by_answers answers) name settings job is
files_of_job name settings answers rose (Err stop) is =
    read_first (IsJobRefusal (by_answers answers) name None settings) (IsRunRefusal (by_answers answers) name) answers rose stop (refusal_of_job (by_answers answers) name settings) is
