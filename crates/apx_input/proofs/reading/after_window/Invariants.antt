use Rattle.std.proofs.Common.{◌≡◌, ◌+◌, drop}
use Rattle.apx_pass.specs.Groups.{first_refused_from}
use Rattle.apx_pass.specs.Lines.{lines}
use Rattle.apx_lines.specs.Rest.{IsRest}
use Rattle.apx_input.proofs.reading.after_window.Given as goal

abbrev pub invariant-loop-done : goal.invariant-loop-done
invariant-loop-done l = record {
  rest : IsRest l.text l.rest;
  behind : lines l.rest ≡ drop l.done (lines l.text);
  refused : first_refused_from l.kind l.per_window (l.first + l.done) (lines l.rest) ≡ first_refused_from l.kind l.per_window l.first (lines l.text);
}
