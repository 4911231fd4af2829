-- The plan of a job, as a core reads it.
use Rattle.std.proofs.Common.{◌≡◌, ℕ, ◌<◌, length, map, ap, ◌∙◌, arith}
use Rattle.std.proofs.lemmas.List.FromFn.{get_or-map-range_with_len, length-map-range_with_len}
use Rattle.apx_history.specs.Plan.{Plan, no_operator, operator, boundary_at, number_in, number}
use Rattle.apx_pass.specs.Pass.{windows, sink_of}
use Rattle.apx_pass.specs.Job.{Job}
use Rattle.apx_job.specs.Job.{command_in, operator_in, plan_of, boundary_of, in_force}

module _ (plan : Plan) (job : Job) (is : plan ≡ plan_of job) where
  pub sink_is : plan.sink ≡ sink_of job.flow.nodes
  sink_is = ap (λ (p : Plan). p.sink) is

  pub windows_are : plan.windows ≡ windows job.flow
  windows_are = ap (λ (p : Plan). p.windows) is

  pub operators_are : length plan.operators ≡ length job.flow.nodes
  operators_are = ap (λ (p : Plan). length p.operators) is ∙ length-map-range_with_len (operator_in job.flow.nodes) 0 (length job.flow.nodes)

  pub operator_is : (o : ℕ) → o < length job.flow.nodes → operator plan o ≡ operator_in job.flow.nodes o
  operator_is o there =
      ap (λ (p : Plan). operator p o) is
      ∙ get_or-map-range_with_len (operator_in job.flow.nodes) 0 (length job.flow.nodes) o o no_operator there (omega arith)

  pub boundary_is : (o w : ℕ) → boundary_at plan o w ≡ boundary_of job o w
  boundary_is o w = ap (λ (p : Plan). boundary_at p o w) is

  pub force_is : (o w : ℕ) → o < length job.flow.nodes → number plan o (boundary_at plan o w) ≡ in_force job o w
  force_is o w there =
      ap (λ (p : Plan). number_in p.lines o (boundary_at p o w) (operator plan o).first) is
      ∙ ap (λ q. number_in (map (command_in job.flow.nodes) job.script) o (boundary_of job o w) q.first) (operator_is o there)
