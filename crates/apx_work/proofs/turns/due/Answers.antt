use Rattle.apx_work.proofs.Choosing.{due_store, due_close}
use Rattle.apx_work.proofs.turns.due.Goals as goal

pub returns-in-Write : goal.returns-in-Write
returns-in-Write g c =
    let k = g.S.Shop in
    due_store k.plan k.stored k.from c.args.worker (k.journal c.args.shop.now) (k.machine c.args.shop.now) c.facts.ensures.history c.facts.ensures.now
    (k.claimed c.args.claim.now) c.requires c.open_window-open.result c.in-Some.event c.in-Write.window c.open_window-open.ensures c.in-Write.is
    c.in-Some.ensures.next c.in-Some.ensures.may

pub returns-in-Finish : goal.returns-in-Finish
returns-in-Finish g c =
    let k = g.S.Shop in
    due_close k.plan k.stored k.from c.args.worker (k.journal c.args.shop.now) (k.machine c.args.shop.now) c.facts.ensures.history c.facts.ensures.now
    (k.claimed c.args.claim.now) c.requires c.open_window-open.result c.in-Some.event c.in-Finish.op c.in-Finish.part c.in-Finish.window
    c.open_window-open.ensures c.in-Finish.is c.in-Some.ensures.next c.in-Some.ensures.may
