-- What is made of a script, and of an application with it.
use Rattle.std.proofs.Common.{◌≡◌, ℕ, ◌≤◌, List, [], ◌++◌, inl, inr, Option}
use Rattle.std.specs.Prelude.{Result, Ok, Err, None, Some, option_map, MatchResult}
use Rattle.std.specs.Borrow.{Bor}
use Rattle.apx_cause.specs.Cause.{Rose}
use Rattle.apx_device.specs.Folder.{Answer}
use Rattle.apx_pass.specs.Pass.{Dataflow}
use Rattle.apx_pass.specs.Script.{Line}
use Rattle.apx_script.specs.declared.settings.Settings.{Settings}
use Rattle.apx_pass.specs.Job.{Job}
use Rattle.apx_job.specs.Job.{refused_line}
use Rattle.apx_job.specs.Prepared.{job_of}
use Rattle.apx_load.specs.declared.stop.Stop.{Stop}
use Rattle.apx_load.specs.Refusals.{Reading, by_answers, IsAcceptedRun, IsRunRefusal}
use Rattle.apx_load.specs.Jobs.{IsScript, IsScriptRefusal, IsLineOfJob, IsScripted, IsScriptedRefusal, IsJob, IsJobRefusal}
use Rattle.apx_load.specs.Stops.{IsCaused, no_causes, reading_causes}
use Rattle.apx_load.proofs.Readings.{by-first, by-second, of-run, of-scripted, of-scripted-refusal}
use Rattle.apx_load.proofs.Stopping.{refusal_read, read_first, read_later}

-- with no file named there is no command
pub no_script : (reading : Reading) (name : Option (Bor (List ℕ))) (lines : List Line) → name ≡ None → lines ≡ [] → IsScript reading (option_map (λ n. n.now) name) lines
no_script reading None lines is none = none
no_script reading (Some name) lines is none = absurd cc

-- what is made of the parts of a job
abbrev pub IsMade : Job → Job → Type 0
IsMade parts job = (job ≡ parts) × (refused_line parts ≡ None)

module _ (answers : List Answer) (flow : Dataflow) (script : Option (List ℕ)) (settings : Settings) (rose : Type 0) where
  -- a stop at the script is one of both
  pub script_first : (stop : Stop) → IsCaused (reading_causes (IsScriptRefusal (by_answers answers) script) answers rose) stop → IsCaused (reading_causes (IsScriptedRefusal (by_answers answers) flow script settings) answers rose) stop
  script_first stop is = read_first (IsScriptRefusal (by_answers answers) script) (IsScriptedRefusal (by_answers answers) flow script settings) answers rose stop (λ refusal refused. inl refused) is

  -- what is made of the script that was read
  pub scripted_of : (lines : List Line) (made : Result Job Stop) → IsScript (by_answers answers) script lines → MatchResult made (IsMade (job_of flow.nodes flow.inputs lines settings)) (IsCaused (record no_causes { refuses = IsLineOfJob (job_of flow.nodes flow.inputs lines settings) })) → MatchResult made (IsScripted (by_answers answers) flow script settings) (IsCaused (reading_causes (IsScriptedRefusal (by_answers answers) flow script settings) answers rose))
  scripted_of lines (Ok job) read is = record { lines = lines; read = read; judged = is.1; is = is.0 }
  scripted_of lines (Err stop) read is =
      refusal_read (IsLineOfJob (job_of flow.nodes flow.inputs lines settings)) (IsScriptedRefusal (by_answers answers) flow script settings) answers rose stop (λ refusal line. inr (lines, read, line)) is

module _ (name : List ℕ) (script : Option (List ℕ)) (settings : Settings) where
  -- a stop at the application or an input is one of all
  pub run_first : (answers : List Answer) (rose : Type 0) (stop : Stop) → IsCaused (reading_causes (IsRunRefusal (by_answers answers) name) answers rose) stop → IsCaused (reading_causes (IsJobRefusal (by_answers answers) name script settings) answers rose) stop
  run_first answers rose stop is = read_first (IsRunRefusal (by_answers answers) name) (IsJobRefusal (by_answers answers) name script settings) answers rose stop (λ refusal refused. inl refused) is

  -- what is made of the dataflow that was read
  pub job_of_run : (first second : List Answer) (flow : Dataflow) (before mid now : ℕ) (made : Result Job Stop) → before ≤ mid → IsAcceptedRun (by_answers first) name flow → MatchResult made (IsScripted (by_answers second) flow script settings) (IsCaused (reading_causes (IsScriptedRefusal (by_answers second) flow script settings) second (Rose mid now))) → MatchResult made (IsJob (by_answers (first ++ second)) name script settings) (IsCaused (reading_causes (IsJobRefusal (by_answers (first ++ second)) name script settings) (first ++ second) (Rose before now)))
  job_of_run first second flow before mid now (Ok job) later run is =
      (flow, of-run (by_answers first) (by_answers (first ++ second)) (by-first first second) name flow run, of-scripted (by_answers second) (by_answers (first ++ second)) (by-second first second) flow script settings job is)
  job_of_run first second flow before mid now (Err stop) later run is =
      read_later (IsScriptedRefusal (by_answers second) flow script settings) (IsJobRefusal (by_answers (first ++ second)) name script settings) first second before mid now stop later
      (λ refusal refused. inr (flow, of-run (by_answers first) (by_answers (first ++ second)) (by-first first second) name flow run, of-scripted-refusal (by_answers second) (by_answers (first ++ second)) (by-second first second) flow script settings refusal refused))
      is
