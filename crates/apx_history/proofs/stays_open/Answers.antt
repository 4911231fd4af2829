use Rattle.apx_history.proofs.Held.{stays-open}
use Rattle.apx_history.proofs.stays_open.Goals as goal

pub returns : goal.returns
returns c = stays-open
