use Rattle.std.proofs.Common.{ℕ, ◌+◌, subst, sym, arith, rules}
use Rattle.apx_recovery.proofs.Steps.{IsSoFar, later_step}
use Rattle.apx_recovery.proofs.checkpoint.advance_to.Goals as goal

pub loop-window-init : goal.loop-window-init
loop-window-init c = record { saved = (0, omega arith, search rules); within = search rules; greatest = λ k r s. absurd (omega arith) }

pub loop-window-preserved : goal.loop-window-preserved
loop-window-preserved c = subst (λ (x : ℕ). IsSoFar c.args.saved.now c.args.downstream.now (c.loop-window.window-index + 1) x) (sym c.later-greatest.ensures)
    (later_step c.args.saved.now c.args.downstream.now c.loop-window.window-index c.loop-window.greatest _ (omega arith) (search rules) c.loop-window.invariant)

pub returns : goal.returns
returns c = record { saved = c.loop-window.invariant.saved; within = c.loop-window.invariant.within; greatest = λ k r s. c.loop-window.invariant.greatest k (omega arith) s }
