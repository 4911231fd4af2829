use Rattle.std.proofs.Common.{◌≡◌, ◌+◌, ◌≤◌, length}
use Rattle.apx_pass.specs.Lines.{lines}
use Rattle.apx_pass.specs.Script.{script_from, script_of}
use Rattle.apx_script.proofs.Reading.{with_front}
use Rattle.apx_script.proofs.read.read_script.Given as goal

abbrev pub invariant-loop-line : goal.invariant-loop-line
invariant-loop-line l = record {
  so_far : with_front l.commands.items (script_from (l.number + 1) (length l.commands.items) (lines l.rest)) ≡ script_of l.bytes;
  number : l.number + length l.rest ≤ length l.bytes;
  few : length l.commands.items ≤ 1000;
}

abbrev pub decreases-loop-line : goal.decreases-loop-line
decreases-loop-line l = length l.rest
