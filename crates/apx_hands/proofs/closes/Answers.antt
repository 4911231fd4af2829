use Rattle.apx_hands.proofs.Opening.{closes-it}
use Rattle.apx_hands.proofs.closes.Goals as goal

pub returns : goal.returns
returns c = closes-it
