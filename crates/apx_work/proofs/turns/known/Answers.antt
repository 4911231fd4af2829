use Rattle.apx_work.proofs.Holding.{claim_open}
use Rattle.apx_work.proofs.turns.known.Goals as goal

pub returns : goal.returns
returns g c =
    let k = g.S.Shop in
    claim_open k.plan k.stored k.from c.args.worker (k.journal c.args.shop.now) (k.machine c.args.shop.now) c.facts.ensures.history c.facts.ensures.now
    (k.claimed c.args.claim.now) c.requires
