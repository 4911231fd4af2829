-- The plan of a job is within the limits of a machine.
use Rattle.std.proofs.Common.{◌≡◌, ℕ, ◌<◌, ◌≤◌, length, ap, arith}
use Rattle.std.proofs.lemmas.List.FromFn.{length-map-range_with_len, get_or-map-range_with_len}
use Rattle.apx_pass.specs.Pass.{windows}
use Rattle.apx_pass.specs.Valid.{IsValid}
use Rattle.apx_history.specs.Plan as history
use Rattle.apx_history.specs.Plan.{line, count_or, operator, no_operator}
use Rattle.apx_machine.specs.Small.{IsSmall}
use Rattle.apx_pass.specs.Job.{Job}
use Rattle.apx_job.specs.Job.{operator_in, plan_of}

module _ (job : Job) (valid : IsValid job.flow.nodes) where
  many : length (plan_of job).operators ≡ length job.flow.nodes
  many = length-map-range_with_len (operator_in job.flow.nodes) 0 (length job.flow.nodes)

  first : (o : ℕ) → o < length (plan_of job).operators → (operator (plan_of job) o).first ≤ 8
  first o h =
      let within : o < length job.flow.nodes = (let m = many in omega arith) in
      let is = get_or-map-range_with_len (operator_in job.flow.nodes) 0 (length job.flow.nodes) o o no_operator within (omega arith) in
      let few = (valid.nodes_valid o within).few_partitions in
      let same = ap (λ (q : history.Operator). q.first) is in
      omega arith

  pub is-small : windows job.flow ≤ 20000 →
      ((l : ℕ) → l < length (plan_of job).lines → count_or 0 (line (plan_of job) l).act ≤ 8) →
      length (plan_of job).lines ≤ 1000 → IsSmall (plan_of job)
  is-small w counts few = record {
    windows = w;
    operators = (let m = many in let f = valid.few in omega arith);
    first = first;
    counts = counts;
    lines = few;
  }
