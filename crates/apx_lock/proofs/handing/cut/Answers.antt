use Rattle.std.proofs.Common.{rules, subst}
use Rattle.atomic_table.specs.Table.{Splits}
use Rattle.apx_lock.specs.Views.{after_split, dealt_view}
use Rattle.apx_lock.specs.Keeps.{Keeps}
use Rattle.apx_lock.proofs.Splitting.{splits}
use Rattle.apx_lock.proofs.handing.cut.Goals as goal

pub split_seat-requires : goal.split_seat-requires
split_seat-requires g c =
    let k = g.V.Kept in let terms = c.args.desk.now.key in let v = c.args.place.now.me.0 in (
      search rules,
      search rules,
      subst (λ h. Splits (Keeps k.stands k.seat k.bound terms.name terms.marks) c.args.place.now.id v (after_split h v) (dealt_view h v)) c.requires.picked
          (splits k.stands k.seat k.bound terms.name terms.marks c.args.place.now.id v c.args._hand c.requires.seat.0 c.requires.seat.1 c.requires.seat.2),
    )
