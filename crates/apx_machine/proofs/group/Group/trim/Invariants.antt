use Rattle.std.proofs.Common.{◌≡◌, ℕ, ◌<◌, ◌≤◌, length, get_or}
use Rattle.apx_history.specs.State.{fresh}
use Rattle.apx_history.specs.Effects.{trimmed}
use Rattle.apx_machine.proofs.group.Group.trim.Given as goal

abbrev pub invariant-loop-part : goal.invariant-loop-part
invariant-loop-part l = record {
  size : length l.self-inside.parts.items ≡ length l.initial.self-inside.parts.items;
  boundary : l.self-inside.boundary ≡ l.initial.self-inside.boundary;
  done : (k : ℕ) → k < l.part → get_or l.self-inside.parts.items k (fresh 0) ≡ trimmed l.window (get_or l.initial.self-inside.parts.items k (fresh 0));
  rest : (k : ℕ) → l.part ≤ k → get_or l.self-inside.parts.items k (fresh 0) ≡ get_or l.initial.self-inside.parts.items k (fresh 0);
}
