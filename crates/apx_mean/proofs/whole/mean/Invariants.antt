use Rattle.std.proofs.Common.{◌≡◌}
use Rattle.std.specs.List.{enumerate_from}
use Rattle.apx_pass.specs.Pass.{mean_up_to}
use Rattle.apx_mean.proofs.whole.mean.Given as goal

abbrev pub invariant-loop-passed : goal.invariant-loop-passed
invariant-loop-passed l = record {
  flow : l.pass.flow ≡ l.job.flow;
  passed : l.pass.passed ≡ l.passed;
  rows : l.all.items ≡ enumerate_from 1 (mean_up_to l.job.flow l.passed);
}
