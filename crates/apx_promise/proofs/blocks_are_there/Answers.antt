use Rattle.apx_promise.proofs.Reading.{finds}
use Rattle.apx_promise.proofs.blocks_are_there.Goals as goal

pub returns : goal.returns
returns c = finds
