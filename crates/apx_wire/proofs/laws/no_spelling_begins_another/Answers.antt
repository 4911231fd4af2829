use Rattle.apx_wire.proofs.Messages.{spelled_once}
use Rattle.apx_wire.proofs.laws.no_spelling_begins_another.Goals as goal

pub returns : goal.returns
returns c = spelled_once
