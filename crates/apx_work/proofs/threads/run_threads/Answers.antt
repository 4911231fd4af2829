use Rattle.std.proofs.Common.{◌≡◌, ◌<◌, arith}
use Rattle.apx_history.specs.declared.Entry.{Entry}
use Rattle.apx_lock.proofs.Lists.{Every-weaker}
use Rattle.apx_work.proofs.Gathering.{ends_over, ends_by}
use Rattle.apx_work.proofs.threads.run_threads.Goals as goal

pub close-shop-requires-clause-all : goal.close-shop-requires-clause-all
close-shop-requires-clause-all g c = λ n h.
    let a = c.all_done-seat.ensures.given in
    let b = c.deal-seats.ensures.given in
    c.all_done-seat.ensures.all n (c.deal-seats.ensures.all n (omega arith))

pub returns-in-Ok-new-clause-over : goal.returns-in-Ok-new-clause-over
returns-in-Ok-new-clause-over g c =
    let k = g.S.Shop in
    ends_over (λ b. k.journal b.shop) _ c.close-shop.result k.plan k.stored k.from c.all_done-seat.result.view c.facts.ensures.history c.close-shop.ensures c.all_done-seat.ensures.over

pub returns-in-Ok-new-clause-workers : goal.returns-in-Ok-new-clause-workers
returns-in-Ok-new-clause-workers g c =
    let k = g.S.Shop in
    let some = c.requires.some in
    ends_by (λ b. k.journal b.shop) _ c.close-shop.result k.plan k.stored k.from c.all_done-seat.result.view c.facts.ensures.history c.close-shop.ensures c.args.workers
    (λ n h. let b = c.deal-seats.ensures.below n (c.all_done-seat.ensures.only n h) in omega arith)

pub returns-in-Err-clause-workers : goal.returns-in-Err-clause-workers
returns-in-Err-clause-workers g c =
    let k = g.S.Shop in
    let some = c.requires.some in
    Every-weaker (λ (e : Entry). e.worker ≡ 0) (λ (e : Entry). e.worker < c.args.workers) (λ e h. omega arith) (k.journal c.stopped-in-Err.result) c.stopped-in-Err.ensures.workers
