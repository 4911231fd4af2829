use Rattle.apx_work.proofs.Ending.{claim-ends}
use Rattle.apx_work.proofs.laws.claim_ends.Goals as goal

pub returns : goal.returns
returns c = claim-ends
