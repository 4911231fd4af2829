use Rattle.std.proofs.Common.{sym, ap, ◌∙◌}
use Rattle.apx_history.specs.State.{running}
use Rattle.apx_work.specs.Own.{own}
use Rattle.apx_work.proofs.Stopping.{over_of}
use Rattle.apx_work.proofs.Doing.{holds_one, stops_leaves}
use Rattle.apx_work.proofs.bench.Bench.turn.Goals as goal

pub returns-then-not-is_running-clause-next : goal.returns-then-not-is_running-clause-next
returns-then-not-is_running-clause-next g c =
    let k = g.S.Shop in
    let es = k.journal c.args.self.now.shop in (
      over_of k.plan k.stored k.from es c.facts.ensures.history (ap running (sym c.facts.ensures.now) ∙ sym c.is_running.ensures ∙ c.if-not-is_running.true),
      holds_one k.claimed k.is_whole k.made k.may_stop k.plan c.args.worker (own c.args.worker es) c.args.hand c.requires,
    )

pub returns-in-Refused-clause-next : goal.returns-in-Refused-clause-next
returns-in-Refused-clause-next g c =
    let k = g.S.Shop in
    let es = k.journal c.args.self.now.shop in
    stops_leaves k.plan c.args.worker es (k.journal c.fail.new.self)
    (holds_one k.claimed k.is_whole k.made k.may_stop k.plan c.args.worker (own c.args.worker es) c.args.hand c.requires) c.fail.ensures
