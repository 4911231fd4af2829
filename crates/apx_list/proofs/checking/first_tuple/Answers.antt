use Rattle.apx_wire.specs.declared.message.Message.TheVariants.{Payload}
use Rattle.apx_list.proofs.checking.first_tuple.Goals as goal

pub returns-in_default-clause-none : goal.returns-in_default-clause-none
returns-in_default-clause-none c = λ tuple rest begins. absurd (cc (c.in_default.is, c.in_ok-message.ensures.only (Payload tuple) rest begins.fits begins.bytes_are))
