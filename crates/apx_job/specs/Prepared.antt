-- The parts of a job as one record.
use Rattle.std.specs.Prelude.{◌≡◌, ℕ, ◌≤◌, List, length, map}
use Rattle.apx_history.specs.declared.Line as command
use Rattle.apx_script.specs.declared.settings.Settings as code
use Rattle.apx_pass.specs.Graph.{Node}
use Rattle.apx_pass.specs.Groups.{Input}
use Rattle.apx_pass.specs.Pass.{windows, inputs_before}
use Rattle.apx_pass.specs.Script.{Line}
use Rattle.apx_pass.specs.Job.{Settings, Job}
use Rattle.apx_job.specs.Job.{command_in}

-- the settings
abbrev pub settings_view : code.Settings → Settings
settings_view s = record { base = s.base; every = s.every; block = s.block; keep = s.keep }

-- settings as the code has them
abbrev pub settings_of : Settings → code.Settings
settings_of s = record { base = s.base; every = s.every; block = s.block; keep = s.keep }

-- the job of these
abbrev pub job_of : List Node → List Input → List Line → code.Settings → Job
job_of nodes inputs script settings =
    record { flow = record { nodes = nodes; inputs = inputs }; script = script; settings = settings_view settings }

-- what is kept of a job before its script is judged: its commands with their operators' numbers, and its windows counted
pub record ArePrepared (job : Job) (commands : List command.Line) (count : ℕ) : Type 0 where
  -- the commands are those of the script
  pub commands_are : commands ≡ map (command_in job.flow.nodes) job.script
  -- the count is the number of windows
  pub counted : count ≡ windows job.flow
  -- which are at most 20,000
  pub few : count ≤ 20000
  -- there is an entry for each input operator
  pub inputs : length job.flow.inputs ≡ inputs_before job.flow.nodes (length job.flow.nodes)
