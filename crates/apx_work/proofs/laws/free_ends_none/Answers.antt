use Rattle.apx_work.proofs.Ending.{free-ends-none}
use Rattle.apx_work.proofs.laws.free_ends_none.Goals as goal

pub returns : goal.returns
returns c = free-ends-none
