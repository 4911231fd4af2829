use Rattle.std.proofs.Common.{sym, subst}
use Rattle.apx_history.specs.Kept.{IsPlan, Kept}
use Rattle.apx_history.proofs.Legal.{kept_start}
use Rattle.apx_machine.specs.Machine.{Running}
use Rattle.apx_machine.specs.Small.{IsSmall}
use Rattle.apx_machine.proofs.Starting.{zero_start}
use Rattle.apx_machine.proofs.machine.Machine.new.Goals as goal

pub invariant_of-result : goal.invariant_of-result
invariant_of-result c = subst (λ (r : Running). IsPlan r.plan × IsSmall r.plan × Kept r.plan r.state) (sym c.in_ok-begin.ensures)
    (c.requires.plan, c.requires.small, kept_start c.args.plan c.args.stored 0 c.requires.plan (zero_start c.args.plan c.args.stored c.requires.plan c.requires.stored))
