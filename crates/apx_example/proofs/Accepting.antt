-- The files of an example are accepted.
use Rattle.std.proofs.Common.{◌≤◌, length, arith}
use Rattle.apx_gen.specs.Generated.{generator_of, application_text}
use Rattle.apx_example.specs.Example.{example_input, ExamplesAreAccepted}
use Rattle.apx_example.proofs.Json.{reads}
use Rattle.apx_example.proofs.Graph.{answers}
use Rattle.apx_example.proofs.Lines.{input-accepted, windows-are, lines-short}
use Rattle.apx_example.proofs.Scripts.{script-read, script-short, script-judged}

app-short : length application_text ≤ 1048576
app-short = omega arith

pub accepted : ExamplesAreAccepted
accepted number size some few = record {
  read = reads;
  graph = answers;
  input = input-accepted number size few;
  script = script-read size;
  job = script-judged (example_input number size) size (windows-are number size);
  windows = windows-are number size;
  app_short = app-short;
  lines_short = (let h = lines-short size (generator_of number) in omega arith);
  script_short = script-short size;
}
