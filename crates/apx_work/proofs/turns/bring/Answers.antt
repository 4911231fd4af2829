use Rattle.std.proofs.Common.{◌≡◌, true, sym, subst}
use Rattle.apx_history.specs.declared.Event.TheVariants.{Write, Finish, Kill}
use Rattle.apx_history.specs.Journals.{owed, bears}
use Rattle.apx_work.specs.Own.{own}
use Rattle.apx_work.proofs.Holding.{claims_by}
use Rattle.apx_work.proofs.Doing.{stored, closed, dropped, stopped_claim}
use Rattle.apx_work.proofs.turns.bring.Goals as goal

pub write-requires-clause-bears : goal.write-requires-clause-bears
write-requires-clause-bears g c =
    let k = g.S.Shop in
    let x = k.claimed c.args.claim in
    subst (λ n. bears (owed k.plan (k.machine c.args.shop.now) (Write x.window)) n ≡ true)
    (sym (claims_by k.plan c.args.worker (own c.args.worker (k.journal c.args.shop.now)) x c.requires.one)) c.in-Store.ensures.1

pub returns-in-Ok-clause-change : goal.returns-in-Ok-clause-change
returns-in-Ok-clause-change g c =
    let k = g.S.Shop in
    (stored k.plan c.args.worker (k.journal c.args.shop.now) (k.journal c.write.new.self) (k.claimed c.args.claim) c.requires.one
    c.in-Store.ensures.2 c.in-Store.ensures.3 c.in-Ok.ensures.did).0

pub returns-in-Ok-clause-next : goal.returns-in-Ok-clause-next
returns-in-Ok-clause-next g c =
    let k = g.S.Shop in (
      (stored k.plan c.args.worker (k.journal c.args.shop.now) (k.journal c.write.new.self) (k.claimed c.args.claim) c.requires.one
          c.in-Store.ensures.2 c.in-Store.ensures.3 c.in-Ok.ensures.did).1,
      c.requires.made,
    )

pub returns-in-Store-clause-change : goal.returns-in-Store-clause-change
returns-in-Store-clause-change g c =
    let k = g.S.Shop in
    (stopped_claim k.plan c.args.worker (k.journal c.args.shop.now) (k.journal c.write.new.self) (k.claimed c.args.claim) c.requires.one c.in-Err.ensures.stops).0

pub returns-in-Store-clause-next : goal.returns-in-Store-clause-next
returns-in-Store-clause-next g c =
    let k = g.S.Shop in
    (stopped_claim k.plan c.args.worker (k.journal c.args.shop.now) (k.journal c.write.new.self) (k.claimed c.args.claim) c.requires.one c.in-Err.ensures.stops).1

pub finish-requires-clause-bears : goal.finish-requires-clause-bears
finish-requires-clause-bears g c =
    let k = g.S.Shop in
    let x = k.claimed c.args.claim in
    subst (λ n. bears (owed k.plan (k.machine c.args.shop.now) (Finish x.op x.part x.window)) n ≡ true)
    (sym (claims_by k.plan c.args.worker (own c.args.worker (k.journal c.args.shop.now)) x c.requires.one)) c.in-Close.ensures.1

pub returns-in-Ok-finish-clause-change : goal.returns-in-Ok-finish-clause-change
returns-in-Ok-finish-clause-change g c =
    let k = g.S.Shop in
    (closed k.plan c.args.worker (k.journal c.args.shop.now) (k.journal c.finish.new.self) (k.claimed c.args.claim) c.requires.one c.in-Ok-finish.ensures.did).0

pub returns-in-Ok-finish-clause-next : goal.returns-in-Ok-finish-clause-next
returns-in-Ok-finish-clause-next g c =
    let k = g.S.Shop in
    (closed k.plan c.args.worker (k.journal c.args.shop.now) (k.journal c.finish.new.self) (k.claimed c.args.claim) c.requires.one c.in-Ok-finish.ensures.did).1

pub returns-in-Close-clause-change : goal.returns-in-Close-clause-change
returns-in-Close-clause-change g c =
    let k = g.S.Shop in
    (stopped_claim k.plan c.args.worker (k.journal c.args.shop.now) (k.journal c.finish.new.self) (k.claimed c.args.claim) c.requires.one c.in-Err-finish.ensures.stops).0

pub returns-in-Close-clause-next : goal.returns-in-Close-clause-next
returns-in-Close-clause-next g c =
    let k = g.S.Shop in
    (stopped_claim k.plan c.args.worker (k.journal c.args.shop.now) (k.journal c.finish.new.self) (k.claimed c.args.claim) c.requires.one c.in-Err-finish.ensures.stops).1

pub give_up-requires-clause-bears : goal.give_up-requires-clause-bears
give_up-requires-clause-bears g c =
    let k = g.S.Shop in
    let x = k.claimed c.args.claim in
    subst (λ n. bears (owed k.plan (k.machine c.args.shop.now) (Kill c.in-Drop.line)) n ≡ true)
    (sym (claims_by k.plan c.args.worker (own c.args.worker (k.journal c.args.shop.now)) x c.requires.one)) c.in-Drop.ensures.1

pub returns-in-Ok-give_up-clause-change : goal.returns-in-Ok-give_up-clause-change
returns-in-Ok-give_up-clause-change g c =
    let k = g.S.Shop in
    (dropped k.plan c.args.worker (k.journal c.args.shop.now) (k.journal c.give_up.new.self) (k.claimed c.args.claim) c.requires.one
    c.in-Drop.line c.in-Drop.ensures.2 c.in-Ok-give_up.ensures.did).0

pub returns-in-Ok-give_up-clause-next : goal.returns-in-Ok-give_up-clause-next
returns-in-Ok-give_up-clause-next g c =
    let k = g.S.Shop in
    (dropped k.plan c.args.worker (k.journal c.args.shop.now) (k.journal c.give_up.new.self) (k.claimed c.args.claim) c.requires.one
    c.in-Drop.line c.in-Drop.ensures.2 c.in-Ok-give_up.ensures.did).1

pub returns-clause-change : goal.returns-clause-change
returns-clause-change g c =
    let k = g.S.Shop in
    (stopped_claim k.plan c.args.worker (k.journal c.args.shop.now) (k.journal c.give_up.new.self) (k.claimed c.args.claim) c.requires.one c.in-Err-give_up.ensures.stops).0

pub returns-clause-next : goal.returns-clause-next
returns-clause-next g c =
    let k = g.S.Shop in
    (stopped_claim k.plan c.args.worker (k.journal c.args.shop.now) (k.journal c.give_up.new.self) (k.claimed c.args.claim) c.requires.one c.in-Err-give_up.ensures.stops).1
