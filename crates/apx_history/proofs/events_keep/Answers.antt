use Rattle.apx_history.proofs.Legal.{events-keep}
use Rattle.apx_history.proofs.events_keep.Goals as goal

pub returns : goal.returns
returns c = events-keep
