use Rattle.apx_history.proofs.Legal.{histories-keep}
use Rattle.apx_history.proofs.histories_keep.Goals as goal

pub returns : goal.returns
returns c = histories-keep
