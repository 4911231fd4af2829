-- The job of a generated example, and that its files are accepted.
--     example_job number size          the job
--     IsAcceptedExample number size    its files spell it, and none is refused
--     ExamplesAreAccepted              so it is with each example
use Rattle.std.specs.Prelude.{◌≡◌, ℕ, ◌+◌, ◌/◌, ◌≤◌, nat_lt, cond, List, [], ◌∷◌, length, codes, None, Ok}
use Rattle.apx_tuple.specs.declared.kind.InputKind.TheVariants as input
use Rattle.apx_gen.specs.Generated.{generator_of, lines_text, application_text, script_text}
use Rattle.apx_json.specs.Reading.{Reads}
use Rattle.apx_dag.specs.Graph.{Answers}
use Rattle.apx_pass.specs.Groups.{Input, input_of, first_refused}
use Rattle.apx_pass.specs.Job.{Job}
use Rattle.apx_pass.specs.Pass.{windows}
use Rattle.apx_pass.specs.Script.{Done, Staged, Kill, Repartition, Line, script_of}
use Rattle.apx_job.specs.Job.{refused_line}
use Rattle.apx_example.specs.Application.{application, nodes}

-- what the input of an example reads
abbrev pub example_input : ℕ → ℕ → Input
example_input number size = input_of input.Lines 10 (lines_text size (generator_of number))

-- how many windows an example with so many lines has
abbrev pub example_windows : ℕ → ℕ
example_windows size = (size + 9) / 10

-- two kills and a repartition
abbrev pub all_lines : List Line
all_lines =
    record { number = 1; act = Kill Done 3 0 (codes "split") }
    ∷ record { number = 2; act = Repartition 4 3 (codes "tally") }
    ∷ record { number = 3; act = Kill Staged 6 2 (codes "tally") } ∷ []

-- the commands of its script: none for fewer than eight windows
abbrev pub example_lines : ℕ → List Line
example_lines size = cond (nat_lt (example_windows size) 8) [] all_lines

-- the job of an example, with a checkpoint each fourth window
abbrev pub example_job : ℕ → ℕ → Job
example_job number size = record {
  flow = record { nodes = nodes; inputs = example_input number size ∷ [] };
  script = example_lines size;
  settings = record { base = 1000000000; every = 4; block = 65536; keep = 64 };
}

-- The files of an example are accepted, and what they spell is its job.
pub record IsAcceptedExample (number size : ℕ) : Type 0 where
  -- the application's text is one of an application
  pub read : Reads application_text (Ok application)
  -- which breaks no rule
  pub graph : Answers application (Ok nodes)
  -- no line of the input is refused
  pub input : first_refused (example_input number size) ≡ None
  -- no line of the script is refused by itself
  pub script : script_of (script_text size) ≡ Ok (example_lines size)
  -- nor by the job
  pub job : refused_line (example_job number size) ≡ None
  -- it has so many windows
  pub windows : windows (example_job number size).flow ≡ example_windows size
  -- the application's text is within its limit of 1 MiB
  pub app_short : length application_text ≤ 1048576
  -- the lines are within 16 MiB
  pub lines_short : length (lines_text size (generator_of number)) ≤ 16777216
  -- the script is within 1 MiB
  pub script_short : length (script_text size) ≤ 1048576

-- Each example is accepted.
abbrev pub ExamplesAreAccepted : Type 0
ExamplesAreAccepted = (number size : ℕ) → 1 ≤ size → size ≤ 200000 → IsAcceptedExample number size
