use Rattle.apx_history.proofs.Listed.{always-goes-on}
use Rattle.apx_history.proofs.always_goes_on.Goals as goal

pub returns : goal.returns
returns c = always-goes-on
