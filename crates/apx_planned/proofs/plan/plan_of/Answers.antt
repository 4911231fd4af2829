use Rattle.std.proofs.Common.{rules, ◌≡◌, List, sym, subst, arith}
use Rattle.apx_history.specs.Plan.{Plan}
use Rattle.apx_pass.specs.Graph.{Node}
use Rattle.apx_pass.specs.Valid.{IsValid}
use Rattle.apx_job.specs.Job.{plan_of}
use Rattle.apx_machine.specs.Small.{IsSmall}
use Rattle.apx_planned.proofs.Small.{is-small}
use Rattle.apx_planned.proofs.plan.plan_of.Goals as goal

pub returns-clause-small : goal.returns-clause-small
returns-clause-small c =
    let same : c.new.result ≡ plan_of c.args.job.now = search rules in
    let valid = subst (λ (nodes : List Node). IsValid nodes) c.dag-dag.ensures c.sink-sink.ensures.valid in
    subst (λ (plan : Plan). IsSmall plan) (sym same)
    (is-small c.args.job.now valid (omega (arith, c.windows-windows.ensures.count, c.windows-windows.ensures.few)) c.is_planned.ensures.counts c.is_planned.ensures.few)
