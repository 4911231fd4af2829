use Rattle.std.proofs.Common.{◌≡◌, ℕ, ◌<◌, ◌≤◌, get_or}
use Rattle.apx_history.specs.State.{no_oper, map_from}
use Rattle.apx_history.specs.Effects.{trimmed}
use Rattle.apx_machine.proofs.changes.trim.Given as goal

abbrev pub invariant-loop-op : goal.invariant-loop-op
invariant-loop-op l = record {
  done : (k : ℕ) → k < l.op → get_or l.ops k no_oper ≡ record { boundary = (get_or l.initial.ops k no_oper).boundary; parts = map_from 0 (λ i. trimmed l.window) (get_or l.initial.ops k no_oper).parts };
  rest : (k : ℕ) → l.op ≤ k → get_or l.ops k no_oper ≡ get_or l.initial.ops k no_oper;
}
