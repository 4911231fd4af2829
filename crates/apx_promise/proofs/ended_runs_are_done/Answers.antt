use Rattle.apx_promise.proofs.Performing.{done}
use Rattle.apx_promise.proofs.ended_runs_are_done.Goals as goal

pub returns : goal.returns
returns c = done
