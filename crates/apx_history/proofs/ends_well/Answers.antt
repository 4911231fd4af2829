use Rattle.apx_history.proofs.Once.{ends-well}
use Rattle.apx_history.proofs.ends_well.Goals as goal

pub returns : goal.returns
returns c = ends-well
