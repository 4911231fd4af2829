use Rattle.apx_history.proofs.Bounded.{is-bounded}
use Rattle.apx_history.proofs.is_bounded.Goals as goal

pub returns : goal.returns
returns c = is-bounded
