use Rattle.apx_hands.proofs.Opening.{opens-by-start}
use Rattle.apx_hands.proofs.opens_by_start.Goals as goal

pub returns : goal.returns
returns c = opens-by-start
