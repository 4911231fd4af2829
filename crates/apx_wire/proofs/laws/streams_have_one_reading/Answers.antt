use Rattle.apx_wire.proofs.OneReading.{Decodes-once, Decodes-not_wrong, Rejects-once}
use Rattle.apx_wire.proofs.laws.streams_have_one_reading.Goals as goal

pub returns-clause-taken : goal.returns-clause-taken
returns-clause-taken c = Decodes-once

pub returns-clause-apart : goal.returns-clause-apart
returns-clause-apart c = Decodes-not_wrong

pub returns-clause-rejected : goal.returns-clause-rejected
returns-clause-rejected c = Rejects-once
