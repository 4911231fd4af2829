use Rattle.std.proofs.Common.{◌≡◌, ◌<◌, List, length, arith, subst, sym, ap, ◌∙◌}
use Rattle.apx_pass.specs.Graph.{Node}
use Rattle.apx_pass.specs.Order.{IsOrder}
use Rattle.apx_dag.specs.Valid.{IsGraph}
use Rattle.apx_pass.specs.Job.{Settings}
use Rattle.apx_job.proofs.Planning.{is-plan, counted, as_long}
use Rattle.apx_job.proofs.job.Job.is_planned.Goals as goal

pub returns-clause-plan : goal.returns-clause-plan
returns-clause-plan c =
    let job = c.args.self.now in
    is-plan job c.order-places.result.now
    (subst (λ (nodes : List Node). IsOrder nodes c.order-places.result.now) c.dag-dag.ensures c.order-places.ensures.goes)
    (subst (λ (nodes : List Node). IsGraph nodes) c.dag-dag.ensures c.len-operators.ensures.valid)
    (omega (arith, c.settings-settings.ensures.limits.some_windows, ap (λ (s : Settings). s.every) c.settings-settings.ensures.value))
    c.windows-windows.ensures.job.script

pub returns-clause-counts : goal.returns-clause-counts
returns-clause-counts c =
    let job = c.args.self.now in
    counted job c.order-places.result.now
    (subst (λ (nodes : List Node). IsOrder nodes c.order-places.result.now) c.dag-dag.ensures c.order-places.ensures.goes)
    (subst (λ (nodes : List Node). IsGraph nodes) c.dag-dag.ensures c.len-operators.ensures.valid)
    (omega (arith, c.settings-settings.ensures.limits.some_windows, ap (λ (s : Settings). s.every) c.settings-settings.ensures.value))
    c.windows-windows.ensures.job.script
