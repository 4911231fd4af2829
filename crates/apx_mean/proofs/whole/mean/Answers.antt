use Rattle.std.proofs.Common.{◌≡◌, ℕ, suc, ◌+◌, ap, ◌∙◌, arith}
use Rattle.apx_pass.specs.Pass.{rows_at, sink_of}
use Rattle.apx_mean.specs.Passing.{Passing}
use Rattle.apx_mean.proofs.Passed.{mean-none, mean-count, mean-more, flow-of}
use Rattle.apx_mean.proofs.whole.mean.Goals as goal

pub loop-passed-init : goal.loop-passed-init
loop-passed-init c = record {
  flow = ap (λ (p : Passing). p.flow) c.in_ok-pass.ensures ∙ flow-of c.args.job.now.flow c.dag.result.now c.inputs.result.now c.dag.ensures c.inputs.ensures;
  passed = ap (λ (p : Passing). p.passed) c.in_ok-pass.ensures;
  rows = mean-none c.args.job.now.flow c.new-all.result.items c.new-all.ensures.items;
}

pub loop-passed-preserved : goal.loop-passed-preserved
loop-passed-preserved c =
    let flow = c.args.job.now.flow in
    let next = c.in_ok-next.ensures.ok in
    let rows : c.in_ok-next.rows ≡ rows_at flow (suc c.loop-passed.passed) (sink_of flow.nodes) =
    next.1 ∙ (λ j. rows_at (c.loop-passed.invariant.flow j) (suc (c.loop-passed.invariant.passed j)) (sink_of (c.loop-passed.invariant.flow j).nodes)) in
    record {
      flow = ap (λ (p : Passing). p.flow) next.0 ∙ c.loop-passed.invariant.flow;
      passed = ap (λ (p : Passing). p.passed) next.0 ∙ ap (λ (n : ℕ). n + 1) c.loop-passed.invariant.passed;
      rows = mean-more flow c.loop-passed.passed (c.loop-passed.passed + 1) c.in_ok-next.rows c.loop-passed.all.items _ (omega arith) c.loop-passed.invariant.rows rows c.in_ok-push.ensures.items;
    }

pub returns-clause-few : goal.returns-clause-few
returns-clause-few c =
    let count = mean-count c.args.job.now.flow c.loop-passed.passed c.loop-passed.all.items c.loop-passed.invariant.rows in
    omega (arith, count, c.windows-passed-end.ensures.few)
