use Rattle.std.proofs.Common.{◌∙◌, ap}
use Rattle.apx_wire.specs.Judging.{payload_head}
use Rattle.apx_wire.proofs.Messages.{head_again}
use Rattle.apx_wire.proofs.reading.payload_number.Goals as goal

pub returns-clause-only : goal.returns-clause-only
returns-clause-only c = λ m rest fits e. c.head.ensures ∙ (ap payload_head e ∙ head_again m rest fits)
