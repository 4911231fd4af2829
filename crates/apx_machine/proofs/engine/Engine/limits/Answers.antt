use Rattle.std.proofs.Common.{◌≡◌, ℕ, suc, ◌+◌, drop, length, get_or, subst, sym, ap, ◌∙◌, arith}
use Rattle.apx_history.specs.Plan.{Plan}
use Rattle.apx_history.specs.Enabled.{limit, limit_in}
use Rattle.apx_machine.proofs.Limits.{limit_step, limit_all}
use Rattle.apx_machine.proofs.engine.Engine.limits.Goals as goal

pub loop-line-preserved : goal.loop-line-preserved
loop-line-preserved c = λ o r.
    (let e : suc c.loop-line.line ≡ c.loop-line.line + 1 = omega arith in
    subst (λ (k : ℕ). limit_in (drop k c.args.self.now.plan.lines) (drop k c.args.self.now.state.left) o (get_or c.lower.new.limits o 0) ≡ limit c.args.self.now.plan c.args.self.now.state o) e
    (ap (λ (n : ℕ). limit_in (drop (suc c.loop-line.line) c.args.self.now.plan.lines) (drop (suc c.loop-line.line) c.args.self.now.state.left) o n) (c.lower.ensures o r)
    ∙ limit_step c.loop-line.line c.args.self.now.plan.lines c.args.self.now.state.left o (get_or c.loop-line.limits o 0) (omega (arith, ap (λ (p : Plan). length p.lines) c.plan-2.ensures)) ∙ c.loop-line.invariant o r))

pub returns : goal.returns
returns c = λ o r.
    sym (limit_all c.loop-line.line c.args.self.now.plan.lines c.args.self.now.state.left o (get_or c.loop-line.limits o 0) (omega (arith, ap (λ (p : Plan). length p.lines) c.plan-2.ensures))) ∙ c.loop-line.invariant o r
