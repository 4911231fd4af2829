-- The plan of a job, as a run reads it.
use Rattle.std.proofs.Common.{◌≡◌, ℕ, ◌<◌, true, length, map, refl, ap, ◌∙◌, arith}
use Rattle.std.proofs.lemmas.List.FromFn.{get_or-map-range_with_len, length-map-range_with_len}
use Rattle.apx_history.specs.declared.Act.{Act}
use Rattle.apx_history.specs.declared.Act.TheVariants.{Fails, Splits}
use Rattle.apx_history.specs.Plan.{Plan, no_operator, operator, line, splits, count_or, number_in, number}
use Rattle.apx_history.specs.Kept.{IsPlan}
use Rattle.apx_history.proofs.Conditions.{all_true, equal_by}
use Rattle.apx_history.proofs.Lines.{number-is}
use Rattle.apx_pass.specs.Pass.{windows}
use Rattle.apx_pass.specs.Job.{Job}
use Rattle.apx_job.specs.Job.{command_in, operator_in, plan_of}
use Rattle.apx_held.specs.Partition.{parts_from}

module _ (plan : Plan) (job : Job) (is : plan ≡ plan_of job) where
  pub windows_are : plan.windows ≡ windows job.flow
  windows_are = ap (λ (p : Plan). p.windows) is

  pub operators_are : length plan.operators ≡ length job.flow.nodes
  operators_are = ap (λ (p : Plan). length p.operators) is ∙ length-map-range_with_len (operator_in job.flow.nodes) 0 (length job.flow.nodes)

  operator_is : (o : ℕ) → o < length job.flow.nodes → operator plan o ≡ operator_in job.flow.nodes o
  operator_is o there =
      ap (λ (p : Plan). operator p o) is
      ∙ get_or-map-range_with_len (operator_in job.flow.nodes) 0 (length job.flow.nodes) o o no_operator there (omega arith)

  -- the number of partitions of an epoch
  pub number_is : (o b : ℕ) → o < length plan.operators → number plan o b ≡ parts_from job o b
  number_is o b there =
      ap (λ (p : Plan). number_in p.lines o b (operator plan o).first) is
      ∙ ap (λ q. number_in (map (command_in job.flow.nodes) job.script) o b q.first) (operator_is o (omega (arith, there, operators_are)))

-- a repartition gives the number of partitions of the epoch that it begins
pub split_number : (plan : Plan) → IsPlan plan → (l : ℕ) → l < length plan.lines → splits (line plan l).act ≡ true
    → number plan (line plan l).op (line plan l).window ≡ count_or 0 (line plan l).act
split_number plan is l there s =
    let o = (line plan l).op in
    let b = (line plan l).window in
    number-is o plan.lines b (operator plan o).first (count_or 0 (line plan l).act) l there (all_true s (equal_by o o refl)) refl
    (λ k r t e. ap (λ (j : ℕ). count_or (operator plan o).first (line plan j).act) (is.once o k l r there t (all_true s (equal_by o o refl)) e) ∙ same (line plan l).act s (operator plan o).first)
  where
    same : (a : Act) → splits a ≡ true → (n : ℕ) → count_or n a ≡ count_or 0 a
    same (Splits count) s n = refl
    same (Fails point part) s n = cc
