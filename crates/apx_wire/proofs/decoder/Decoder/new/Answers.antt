use Rattle.std.proofs.Common.{refl}
use Rattle.apx_wire.proofs.Streams.{Decodes-new}
use Rattle.apx_wire.proofs.decoder.Decoder.new.Goals as goal

pub returns : goal.returns
returns c = Decodes-new _ c.new.ensures.items c.new-2.ensures.items refl refl
