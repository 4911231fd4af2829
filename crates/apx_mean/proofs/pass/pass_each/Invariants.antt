use Rattle.std.proofs.Common.{◌≡◌, map, take, length, suc}
use Rattle.apx_pass.specs.Pass.{progress_after, rows_at}
use Rattle.apx_mean.specs.Kept.{reads_from, AreKept}
use Rattle.apx_mean.specs.Passing.{dataflow_of}
use Rattle.apx_mean.proofs.pass.pass_each.Given as goal

abbrev pub invariant-loop-before : goal.invariant-loop-before
invariant-loop-before l = record {
  carried : l.carried.items ≡ map (progress_after (dataflow_of l.dag l.inputs) (suc l.passed)) (take (length l.yielded) l.order);
  long : length l.rows.items ≡ length l.yielded;
  kept : AreKept (rows_at (dataflow_of l.dag l.inputs) (suc l.passed)) l.order l.sink (reads_from l.dag l.order (length l.rows.items)) l.rows.items;
}
