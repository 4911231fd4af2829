use Rattle.std.proofs.Common.{List, sym, subst}
use Rattle.apx_held.specs.Holding.{Holding, IsHeld}
use Rattle.apx_core.proofs.Bringing.{held_put}
use Rattle.apx_core.proofs.finishing.bring.Goals as goal

pub spill-requires : goal.spill-requires
spill-requires g c =
    subst (λ (hs : List (List Holding)). IsHeld hs c.args.id.op c.args.id.part) (sym c.in-Ok.ensures)
    (held_put c.args.contents.now c.args.id.op c.args.id.part _ c.requires.there)
