-- Where a run may begin, and what an event leaves, in the words of the machine's calls.
use Rattle.std.proofs.Common.{ℕ, ◌≤◌, ◌%◌, inl, refl, arith}
use Rattle.apx_history.specs.Plan.{Plan}
use Rattle.apx_history.specs.Kept.{IsPlan, IsStart}
use Rattle.apx_history.proofs.Conditions.{equal_by}

pub zero_start : (plan : Plan) (s : ℕ) → IsPlan plan → s ≤ plan.windows → IsStart plan s 0
zero_start plan s is h = record {
  stored = h;
  behind = omega arith;
  checkpoint = equal_by (0 % plan.every) 0 (let k = is.every in omega arith);
  script = inl refl;
}
