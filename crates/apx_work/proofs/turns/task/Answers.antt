use Rattle.std.proofs.Common.{◌≡◌, false, true, None, sym, subst, ◌∙◌}
use Rattle.apx_history.proofs.Listed.{choices-exact}
use Rattle.apx_history.specs.Enabled.{can}
use Rattle.apx_machine.specs.Picked.{may_do}
use Rattle.apx_course.specs.Faults.{is_fault}
use Rattle.apx_work.specs.Own.{ends_window}
use Rattle.apx_work.proofs.Stopping.{first_goes}
use Rattle.apx_work.proofs.Choosing.{ends_none, is_none_of, task_strike}
use Rattle.apx_work.proofs.turns.task.Goals as goal

pub unreachable-requires : goal.unreachable-requires
unreachable-requires g c =
    let k = g.S.Shop in
    let m = k.machine c.args.shop.now in
    let e = c.in-Some.event in
    let ends : ends_window e ≡ false =
    ends_none k.plan k.stored k.from c.args.worker (k.journal c.args.shop.now) m c.facts.ensures.history c.facts.ensures.now c.requires e c.in-Some.ensures.next c.in-Some.ensures.may in
    let goes : is_fault e ≡ false = first_goes choices-exact k.plan m c.args.worker None e (sym c.first_for.ensures.event ∙ c.in-Some.is) in
    is_none_of e ends goes c.in-Write.is

pub returns-in-Kill : goal.returns-in-Kill
returns-in-Kill g c =
    let k = g.S.Shop in
    let m = k.machine c.args.shop.now in
    task_strike k.plan k.stored k.from c.args.worker (k.journal c.args.shop.now) m c.facts.ensures.history c.facts.ensures.now c.requires c.in-Kill.line
    (subst (λ e. can k.plan m e ≡ true) c.in-Kill.is c.in-Some.ensures.next)
    (subst (λ e. may_do k.plan m c.args.worker None e ≡ true) c.in-Kill.is c.in-Some.ensures.may)
