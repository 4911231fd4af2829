use Rattle.std.proofs.Common.{◌≡◌, ◌<◌, length, map, true, false}
use Rattle.apx_job.specs.Job.{in_force}
use Rattle.apx_part.specs.Fed.{plan_in, AreWindows}
use Rattle.apx_pass.specs.Graph.{node_at, is_sink}
use Rattle.apx_pass.specs.Pass.{rows_at}
use Rattle.apx_rules.specs.Parts.{of_parts}
use Rattle.apx_shares.specs.Given.{part_progress, part_rows}
use Rattle.apx_blocks.proofs.operator.work_parts.Given as goal

abbrev pub invariant-loop-before : goal.invariant-loop-before
invariant-loop-before l = record {
  part : l.part ≡ length l.yielded;
  carried : l.carried.items ≡ of_parts l.part (λ i. part_progress l.job.flow (in_force l.job l.op l.window) i l.window l.op);
  lists : is_sink (node_at l.job.flow.nodes l.op).role ≡ false →
      AreWindows (plan_in l.job) l.window (map (λ list. list.items) l.lists.items)
      (of_parts l.part (λ i. part_rows l.job.flow (in_force l.job l.op l.window) i l.window l.op));
  rows : is_sink (node_at l.job.flow.nodes l.op).role ≡ true → 0 < l.part → l.rows ≡ rows_at l.job.flow l.window l.op;
}
