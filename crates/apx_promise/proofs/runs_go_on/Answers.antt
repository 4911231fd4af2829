use Rattle.apx_promise.proofs.Going.{goes_on}
use Rattle.apx_promise.proofs.runs_go_on.Goals as goal

pub returns : goal.returns
returns c = goes_on
