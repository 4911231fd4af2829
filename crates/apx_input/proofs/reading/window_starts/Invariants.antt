use Rattle.std.proofs.Common.{◌≡◌, ◌+◌, ◌*◌, ◌≤◌, drop, length}
use Rattle.apx_pass.specs.Groups.{first_refused_from}
use Rattle.apx_pass.specs.Lines.{lines}
use Rattle.apx_input.specs.Starts.{AreStarts}
use Rattle.apx_lines.specs.Rest.{IsRest}
use Rattle.apx_input.proofs.reading.window_starts.Given as goal

abbrev pub invariant-loop-rest : goal.invariant-loop-rest
invariant-loop-rest l = record {
  starts : AreStarts l.per_window l.bytes l.starts.items;
  few : length l.starts.items ≤ 20000;
  rest : IsRest l.bytes l.rest;
  behind : lines l.rest ≡ drop (length l.starts.items * l.per_window) (lines l.bytes);
  refused : first_refused_from l.kind l.per_window (length l.starts.items * l.per_window + 1) (lines l.rest) ≡ first_refused_from l.kind l.per_window 1 (lines l.bytes);
}

abbrev pub decreases-loop-rest : goal.decreases-loop-rest
decreases-loop-rest l = length (lines l.rest)
