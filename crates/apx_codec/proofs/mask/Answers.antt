use Rattle.std.proofs.Common.{arith, refl}
use Rattle.apx_codec.proofs.Masks.{from_four, from_eight}
use Rattle.apx_codec.proofs.mask.Goals as goal

pub returns-in-3-clause-least : goal.returns-in-3-clause-least
returns-in-3-clause-least c =
    record { bits = 2; form = refl; reaches = omega arith; least = λ b h. from_four c.args.n b (omega arith) h }

pub returns-in_default-2-clause-least : goal.returns-in_default-2-clause-least
returns-in_default-2-clause-least c =
    record { bits = 3; form = refl; reaches = omega arith; least = λ b h. from_eight c.args.n b (omega arith) h }
