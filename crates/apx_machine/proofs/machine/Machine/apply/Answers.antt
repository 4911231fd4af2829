use Rattle.std.proofs.Common.{sym, subst}
use Rattle.apx_history.specs.Conditions.{Enabled}
use Rattle.apx_history.proofs.Legal.{can_facts}
use Rattle.apx_machine.specs.Machine.{Running}
use Rattle.apx_machine.proofs.Keeping.{kept_result}
use Rattle.apx_machine.proofs.machine.Machine.apply.Goals as goal

pub apply-requires : goal.apply-requires
apply-requires c = subst (λ (r : Running). Enabled r.plan r.state c.args.event) (sym c.self.view_is) (can_facts c.args.self.now.plan c.args.self.now.state c.args.event c.requires)

pub invariant_of-self : goal.invariant_of-self
invariant_of-self c = kept_result c.self.inside.engine.plan c.self.inside.engine.state c.args.worker c.args.event c.self.invariant.0 c.self.invariant.1 c.self.invariant.2
    (subst (λ (r : Running). Enabled r.plan r.state c.args.event) (sym c.self.view_is) (can_facts c.args.self.now.plan c.args.self.now.state c.args.event c.requires))
    c.apply.result c.apply.new.self c.apply.ensures.plan c.apply.ensures.ok c.apply.ensures.err
