use Rattle.std.proofs.Common.{◌≡◌, ◌+◌, ◌≤◌, length}
use Rattle.apx_audit.proofs.Judging.{HasRead}
use Rattle.apx_audit.proofs.audit.entries.Given as goal

abbrev pub invariant-loop-rest : goal.invariant-loop-rest
invariant-loop-rest l = record {
  read : HasRead l.initial.machine.plan l.text l.journal l.machine l.rest;
  number : l.line ≡ length l.journal;
  few : l.line + length l.rest ≤ length l.text;
}

abbrev pub decreases-loop-rest : goal.decreases-loop-rest
decreases-loop-rest l = length l.rest
