use Rattle.apx_work.proofs.Opening.{own-tells}
use Rattle.apx_work.proofs.laws.own_tells.Goals as goal

pub returns : goal.returns
returns c = own-tells
