use Rattle.std.proofs.Common.{◌≡◌, ℕ, ◌<◌, ◌≤◌, ◌||◌, cond, length, get_or}
use Rattle.apx_history.specs.Plan.{kills}
use Rattle.apx_history.specs.State.{fresh}
use Rattle.apx_history.specs.Effects.{back}
use Rattle.apx_machine.proofs.group.Group.go_back.Given as goal

abbrev pub invariant-loop-part : goal.invariant-loop-part
invariant-loop-part l = record {
  size : length l.self-inside.parts.items ≡ length l.initial.self-inside.parts.items;
  boundary : l.self-inside.boundary ≡ l.initial.self-inside.boundary;
  done : (k : ℕ) → k < l.part → get_or l.self-inside.parts.items k (fresh 0) ≡ cond (kills l.op k l.line || l.under) (back (get_or l.initial.self-inside.parts.items k (fresh 0))) (get_or l.initial.self-inside.parts.items k (fresh 0));
  rest : (k : ℕ) → l.part ≤ k → get_or l.self-inside.parts.items k (fresh 0) ≡ get_or l.initial.self-inside.parts.items k (fresh 0);
}
