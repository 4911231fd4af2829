use Rattle.apx_work.proofs.Holding.{claim-is-open}
use Rattle.apx_work.proofs.laws.claim_is_open.Goals as goal

pub returns : goal.returns
returns c = claim-is-open
