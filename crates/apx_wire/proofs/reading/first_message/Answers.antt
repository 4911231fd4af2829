use Rattle.std.proofs.Common.{arith}
use Rattle.apx_wire.proofs.Messages.{is_found, is_only}
use Rattle.apx_wire.proofs.reading.first_message.Goals as goal

pub returns-clause-found : goal.returns-clause-found
returns-clause-found c = is_found c.judge.result c.args.place c.args.bytes.now (λ i. omega (arith, c.type_inv.bytes i)) c.judge.ensures

pub returns-clause-only : goal.returns-clause-only
returns-clause-only c = λ m rest fits e. is_only c.judge.result c.args.place c.args.bytes.now m rest fits e c.judge.ensures
