use Rattle.std.proofs.Common.{rules, length, ap, ◌∙◌}
use Rattle.apx_lock.specs.Seats.{carried}
use Rattle.apx_lock.proofs.Marks.{length-joined_marks}
use Rattle.apx_lock.proofs.Joining.{joins}
use Rattle.apx_lock.proofs.lock.MarkLock.join.Goals as goal

pub join_seat-requires : goal.join_seat-requires
join_seat-requires g c =
    let k = g.V.Kept in let terms = c.args.self.now.table.shared.key in
    let is = ap (λ s. s.view.name) c.seat.view_is ∙ c.requires.seat.1 in
    let is' = ap (λ s. s.view.name) c.other.view_is ∙ c.requires.other.1 in
    let idle = ap (λ s. s.view.holds) c.other.view_is ∙ c.requires.idle in
    (search rules, search rules, c.other.invariant.2 ∙ ap (carried {V = g.row.V.Denot}) idle, search rules, joins k.stands k.seat k.bound terms.name terms.marks _ _ _ _ is is' idle)

pub returns-then-given-gt0-clause-seat : goal.returns-then-given-gt0-clause-seat
returns-then-given-gt0-clause-seat g c = let e = c.join_seat.ensures.2 in let view = ap (λ s. s.view) c.seat.view_is in (
  c.join_seat.ensures.0 ∙ (ap (λ s. s.table) c.seat.view_is ∙ c.requires.seat.0),
  ap (λ m. m.0.name) e ∙ (ap (λ v. v.name) view ∙ c.requires.seat.1),
  ap (λ m. length m.0.marks) e ∙ (length-joined_marks c.seat.inside.place.me.0.marks c.other.inside.place.me.0.marks ∙ (ap (λ v. length v.marks) view ∙ c.requires.seat.2)),
)

pub returns-else-given-gt0-clause-seat : goal.returns-else-given-gt0-clause-seat
returns-else-given-gt0-clause-seat g c = let e = c.join_seat.ensures.2 in let view = ap (λ s. s.view) c.seat.view_is in (
  c.join_seat.ensures.0 ∙ (ap (λ s. s.table) c.seat.view_is ∙ c.requires.seat.0),
  ap (λ m. m.0.name) e ∙ (ap (λ v. v.name) view ∙ c.requires.seat.1),
  ap (λ m. length m.0.marks) e ∙ (length-joined_marks c.seat.inside.place.me.0.marks c.other.inside.place.me.0.marks ∙ (ap (λ v. length v.marks) view ∙ c.requires.seat.2)),
)
