use Rattle.std.proofs.Common.{Ok, ap, ◌∙◌}
use Rattle.apx_wire.proofs.Messages.{judged-unfinished}
use Rattle.apx_wire.proofs.whole.next_in_order.Goals as goal

pub returns-in_default-clause-ok : goal.returns-in_default-clause-ok
returns-in_default-clause-ok c = λ place. judged-unfinished c.args.place place c.args.bytes.now (c.in_ok-message.ensures.exact ∙ ap Ok c.in_default.is)
