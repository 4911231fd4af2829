use Rattle.apx_work.proofs.Opening.{open-stays}
use Rattle.apx_work.proofs.laws.open_stays.Goals as goal

pub returns : goal.returns
returns c = open-stays
