use Rattle.apx_history.proofs.Held.{opens-in-epoch}
use Rattle.apx_history.proofs.opens_in_epoch.Goals as goal

pub returns : goal.returns
returns c = opens-in-epoch
