use Rattle.std.proofs.Common.{None, refl}
use Rattle.apx_history.specs.declared.Event.TheVariants.{Kill}
use Rattle.apx_work.proofs.Holding.{claims_push, start_push, alone_push}
use Rattle.apx_work.proofs.Doing.{stops_leaves}
use Rattle.apx_work.proofs.turns.take_up.Goals as goal

pub returns-in-Ok-clause-next : goal.returns-in-Ok-clause-next
returns-in-Ok-clause-next g c =
    let k = g.S.Shop in
    let b = c.in-Begin in (
      start_push k.plan c.args.worker (k.journal c.args.shop.now) (k.journal c.start.new.self) b.op b.part b.window (k.claimed c.in-Ok.claim)
          c.requires c.in-Ok.ensures.claim c.in-Ok.ensures.did,
      c.in-Ok.ensures.whole,
    )

pub returns-in-Err-clause-next : goal.returns-in-Err-clause-next
returns-in-Err-clause-next g c =
    let k = g.S.Shop in stops_leaves k.plan c.args.worker (k.journal c.args.shop.now) (k.journal c.start.new.self) c.requires.0 c.in-Err.ensures.stops

pub returns-in-Ok-kill-clause-next : goal.returns-in-Ok-kill-clause-next
returns-in-Ok-kill-clause-next g c =
    let k = g.S.Shop in
    claims_push k.plan c.args.worker (k.journal c.args.shop.now) (k.journal c.kill.new.self) None (Kill c.in-Strike.line) c.requires refl c.in-Ok-kill.ensures.did

pub returns-in-Err-kill-clause-next : goal.returns-in-Err-kill-clause-next
returns-in-Err-kill-clause-next g c =
    let k = g.S.Shop in stops_leaves k.plan c.args.worker (k.journal c.args.shop.now) (k.journal c.kill.new.self) c.requires.0 c.in-Err-kill.ensures.stops

pub returns-in-Ok-act-clause-next : goal.returns-in-Ok-act-clause-next
returns-in-Ok-act-clause-next g c =
    let k = g.S.Shop in
    alone_push k.plan c.args.worker (k.journal c.args.shop.now) (k.journal c.act.new.self) c.in-Alone.event c.requires c.in-Alone.ensures.1 c.in-Ok-act.ensures.did

pub returns-in-Err-act-clause-next : goal.returns-in-Err-act-clause-next
returns-in-Err-act-clause-next g c =
    let k = g.S.Shop in stops_leaves k.plan c.args.worker (k.journal c.args.shop.now) (k.journal c.act.new.self) c.requires.0 c.in-Err-act.ensures.stops
