use Rattle.std.proofs.Common.{rules, ◌≡◌, length, sym, ap, ◌∙◌, subst, arith}
use Rattle.apx_lock.specs.Seats.{carried}
use Rattle.apx_lock.specs.Views.{OwnsUpTo, raised_mark}
use Rattle.apx_lock.proofs.Lists.{at_inside}
use Rattle.apx_lock.proofs.Marks.{length-with_mark}
use Rattle.apx_lock.proofs.Bounding.{raises}
use Rattle.apx_lock.proofs.lock.MarkLock.raise_mark.Goals as goal

pub fetch_max-requires : goal.fetch_max-requires
fetch_max-requires g c =
    let k = g.V.Kept in let terms = c.args.self.now.table.shared.key in
    let view = ap (λ s. s.view) c.seat.view_is in
    let is = ap (λ v. v.name) view ∙ c.requires.seat.1 in
    let o = subst (λ v. OwnsUpTo v c.args.mark c.args.to) (sym view) c.requires.owner in
    let wide : length c.seat.inside.place.me.0.marks ≡ terms.marks = ap (λ v. length v.marks) view ∙ c.requires.seat.2 in
    let counts = c.args.self.now.counts in
    let inside = at_inside c.seat.inside.place.me.0.marks c.args.mark o.0 o.1 in
    (search rules, omega arith, raises k.stands k.seat k.bound terms.name terms.marks _ _ _ _ c.args.mark c.args.to o.0 (omega arith) is o.1 o.2 o.3)

pub invariant_of-seat : goal.invariant_of-seat
invariant_of-seat g c = let e = c.fetch_max.ensures.2 c.args.mark (omega arith) in
    subst (λ m. (m.0.number ≡ c.seat.inside.number) × (m.0.given ≡ c.seat.inside.given) × (m.1 ≡ carried {V = g.row.V.Denot} m.0.holds)) (sym e) c.seat.invariant

pub returns-clause-seat : goal.returns-clause-seat
returns-clause-seat g c = let e = c.fetch_max.ensures.2 c.args.mark (omega arith) in let view = ap (λ s. s.view) c.seat.view_is in (
  c.fetch_max.ensures.0 ∙ (ap (λ s. s.table) c.seat.view_is ∙ c.requires.seat.0),
  ap (λ m. m.0.name) e ∙ (ap (λ v. v.name) view ∙ c.requires.seat.1),
  ap (λ m. length m.0.marks) e ∙ (length-with_mark (raised_mark c.args.to) c.args.mark c.seat.inside.place.me.0.marks ∙ (ap (λ v. length v.marks) view ∙ c.requires.seat.2)),
)
