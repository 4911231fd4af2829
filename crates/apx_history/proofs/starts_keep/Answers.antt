use Rattle.apx_history.proofs.Legal.{starts-keep}
use Rattle.apx_history.proofs.starts_keep.Goals as goal

pub returns : goal.returns
returns c = starts-keep
