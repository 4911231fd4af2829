use Rattle.std.proofs.Common.{List, [], ◌∷◌, ◌++◌, sym, ap₂, ◌∙◌, arith}
use Rattle.std.proofs.lemmas.List.FromFn.{map-range_with_len_more}
use Rattle.apx_history.specs.Plan.{Operator}
use Rattle.apx_job.specs.Job.{operator_in}
use Rattle.apx_planned.proofs.plan.operators.Goals as goal

pub loop-op-preserved : goal.loop-op-preserved
loop-op-preserved c =
    c.in_ok-push.ensures.items
    ∙ ap₂ (λ (before : List Operator) (o : Operator). before ++ o ∷ []) c.loop-op.invariant c.in_ok-operator.ensures
    ∙ sym (map-range_with_len_more (operator_in c.args.dag.now) 0 c.loop-op.op c.loop-op.op (omega arith))
