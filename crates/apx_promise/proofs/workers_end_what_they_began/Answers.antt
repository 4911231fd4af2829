use Rattle.apx_promise.proofs.Owning.{own}
use Rattle.apx_promise.proofs.workers_end_what_they_began.Goals as goal

pub returns : goal.returns
returns c = own
