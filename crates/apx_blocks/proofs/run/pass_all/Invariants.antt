use Rattle.std.proofs.Common.{◌≡◌, ℕ, ◌+◌, length, map, take, get_or, [], true, false}
use Rattle.apx_part.specs.Fed.{plan_in, AreWindows, given_in}
use Rattle.apx_pass.specs.Graph.{node_at, is_sink}
use Rattle.apx_pass.specs.Order.{IsBefore}
use Rattle.apx_pass.specs.Pass.{rows_at}
use Rattle.apx_blocks.specs.Carried.{parts_after}
use Rattle.apx_blocks.proofs.run.pass_all.Given as goal

abbrev pub invariant-loop-before : goal.invariant-loop-before
invariant-loop-before l = record {
  long : length l.carried.items ≡ length l.yielded;
  carried : l.carried.items ≡ map (parts_after l.job (l.passed + 1)) (take (length l.yielded) l.order);
  size : length l.sent.items ≡ length l.job.flow.nodes;
  sent : (o : ℕ) → IsBefore l.order (length l.yielded) o → is_sink (node_at l.job.flow.nodes o).role ≡ false →
      AreWindows (plan_in l.job) (l.passed + 1) (get_or l.sent.items o []) (given_in l.job (l.passed + 1) o);
  rows : (o : ℕ) → IsBefore l.order (length l.yielded) o → is_sink (node_at l.job.flow.nodes o).role ≡ true →
      l.rows ≡ rows_at l.job.flow (l.passed + 1) o;
}
