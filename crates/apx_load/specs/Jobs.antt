-- What scripts and jobs are accepted, and what is refused of the others.
--     IsScript reading script lines                     the script's file is accepted, and its commands
--     IsJob reading name script settings job            application, inputs and script are accepted, and their job
--     IsJobRefusal reading name script settings refusal the first thing that is refused
use Rattle.std.specs.Prelude.{◌≡◌, ℕ, ◌⊎◌, List, [], Option, Some, None, Ok, Err}
use Rattle.apx_pass.specs.Pass.{Dataflow}
use Rattle.apx_pass.specs.Script.{Line, script_of}
use Rattle.apx_script.specs.declared.settings.Settings.{Settings}
use Rattle.apx_pass.specs.Job.{Job}
use Rattle.apx_job.specs.Job.{refused_line}
use Rattle.apx_job.specs.Prepared.{job_of}
use Rattle.apx_load.specs.declared.refusal.Refusal.{Refusal}
use Rattle.apx_load.specs.declared.refusal.Refusal.TheVariants.{RefusedCommand}
use Rattle.apx_load.specs.Refusals.{Reading, IsFileRefusal, IsAcceptedRun, IsRunRefusal}

-- ---- the script's file: at most 1 MiB, and no line that is refused by itself

-- the first line of a script's text that is refused
abbrev pub IsLineOfText : List ℕ → Refusal → Type 0
IsLineOfText text (RefusedCommand line why) = script_of text ≡ Err (record { line = line; why = why })
IsLineOfText text _ = ⊥

-- the commands of the script in this file, or none where no file is named
abbrev pub IsScript : Reading → Option (List ℕ) → List Line → Type 0
IsScript reading None lines = lines ≡ []
IsScript reading (Some name) lines = (text : List ℕ) × reading name 1048576 (Ok text) × (script_of text ≡ Ok lines)

-- the first thing that is refused of it
abbrev pub IsScriptRefusal : Reading → Option (List ℕ) → Refusal → Type 0
IsScriptRefusal reading None refusal = ⊥
IsScriptRefusal reading (Some name) refusal =
    IsFileRefusal reading name 1048576 refusal
    ⊎ ((text : List ℕ) × reading name 1048576 (Ok text) × IsLineOfText text refusal)

-- ---- the job of an application, its inputs, a script and settings

-- the first line of its script that the job refuses
abbrev pub IsLineOfJob : Job → Refusal → Type 0
IsLineOfJob job (RefusedCommand line why) = refused_line job ≡ Some (record { line = line; why = why })
IsLineOfJob job _ = ⊥

-- a dataflow is there, its script is accepted, and this is the job of both
pub record IsScripted (reading : Reading) (flow : Dataflow) (script : Option (List ℕ)) (settings : Settings) (job : Job) : Type 0 where
  -- the commands of the script
  pub lines : List Line
  -- they are those of its file
  pub read : IsScript reading script lines
  -- the job refuses none of them
  pub judged : refused_line (job_of flow.nodes flow.inputs lines settings) ≡ None
  -- the job is this one
  pub is : job ≡ job_of flow.nodes flow.inputs lines settings

-- the script is refused by itself, or else for the job
abbrev pub IsScriptedRefusal : Reading → Dataflow → Option (List ℕ) → Settings → Refusal → Type 0
IsScriptedRefusal reading flow script settings refusal =
    IsScriptRefusal reading script refusal
    ⊎ ((lines : List Line) × IsScript reading script lines × IsLineOfJob (job_of flow.nodes flow.inputs lines settings) refusal)

-- application, inputs and script are accepted, and this is their job
abbrev pub IsJob : Reading → List ℕ → Option (List ℕ) → Settings → Job → Type 0
IsJob reading name script settings job =
    (flow : Dataflow) × IsAcceptedRun reading name flow × IsScripted reading flow script settings job

-- the first thing that is refused: of the application, of an input, or of the script
abbrev pub IsJobRefusal : Reading → List ℕ → Option (List ℕ) → Settings → Refusal → Type 0
IsJobRefusal reading name script settings refusal =
    IsRunRefusal reading name refusal
    ⊎ ((flow : Dataflow) × IsAcceptedRun reading name flow × IsScriptedRefusal reading flow script settings refusal)
