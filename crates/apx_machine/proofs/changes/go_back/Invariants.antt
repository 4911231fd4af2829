use Rattle.std.proofs.Common.{◌≡◌, ℕ, ◌<◌, ◌≤◌, get_or}
use Rattle.apx_history.specs.State.{no_oper}
use Rattle.apx_machine.specs.Changed.{gone_back}
use Rattle.apx_machine.proofs.changes.go_back.Given as goal

abbrev pub invariant-loop-op : goal.invariant-loop-op
invariant-loop-op l = record {
  done : (k : ℕ) → k < l.op → get_or l.ops k no_oper ≡ gone_back l.plan l.it k (get_or l.initial.ops k no_oper);
  rest : (k : ℕ) → l.op ≤ k → get_or l.ops k no_oper ≡ get_or l.initial.ops k no_oper;
}
