use Rattle.std.proofs.Common.{ℕ, ◌+◌, subst, sym, arith, rules}
use Rattle.apx_recovery.proofs.Steps.{IsLeastSoFar, least_step}
use Rattle.apx_recovery.proofs.checkpoint.committed.Goals as goal

pub loop-checkpoint-init : goal.loop-checkpoint-init
loop-checkpoint-init c = record { one = (0, omega arith, search rules); least = λ k r. absurd (omega arith) }

pub loop-checkpoint-preserved : goal.loop-checkpoint-preserved
loop-checkpoint-preserved c = subst (λ (x : ℕ). IsLeastSoFar c.args.checkpoints.now (c.loop-checkpoint.checkpoint-index + 1) x) (sym c.min-least.ensures)
    (least_step c.args.checkpoints.now c.loop-checkpoint.checkpoint-index c.loop-checkpoint.least _ (omega arith) (search rules) c.loop-checkpoint.invariant)

pub returns : goal.returns
returns c = record { one = c.loop-checkpoint.invariant.one; least = λ k r. c.loop-checkpoint.invariant.least k (omega arith) }
