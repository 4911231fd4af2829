use Rattle.std.proofs.Common.{rules, ◌≡◌, length, sym, ap, ◌∙◌, subst, arith}
use lib.ListN.{get_elem?}
use Rattle.apx_lock.specs.Seats.{carried}
use Rattle.apx_lock.specs.Views.{loaded_mark}
use Rattle.apx_lock.proofs.Lists.{at_some}
use Rattle.apx_lock.proofs.Marks.{length-with_mark}
use Rattle.apx_lock.proofs.Bounding.{loads}
use Rattle.apx_lock.proofs.lock.MarkLock.lower_bound.Goals as goal

pub load-requires : goal.load-requires
load-requires g c =
    let k = g.V.Kept in let terms = c.args.self.now.table.shared.key in
    let view = ap (λ s. s.view) c.seat.view_is in
    let is = ap (λ v. v.name) view ∙ c.requires.seat.1 in
    let wide : length c.seat.inside.place.me.0.marks ≡ terms.marks = ap (λ v. length v.marks) view ∙ c.requires.seat.2 in
    let counts = c.args.self.now.counts in
    let m = at_some c.seat.inside.place.me.0.marks c.args.mark (omega arith) in
    (search rules, omega arith, loads k.stands k.seat k.bound terms.name terms.marks _ _ _ _ c.args.mark m.0 (omega arith) is m.1)

pub invariant_of-seat : goal.invariant_of-seat
invariant_of-seat g c = let e = (c.load.ensures.2 c.args.mark (omega arith)).0 in
    subst (λ m. (m.0.number ≡ c.seat.inside.number) × (m.0.given ≡ c.seat.inside.given) × (m.1 ≡ carried {V = g.row.V.Denot} m.0.holds)) (sym e) c.seat.invariant

pub returns-clause-seat : goal.returns-clause-seat
returns-clause-seat g c = let e = (c.load.ensures.2 c.args.mark (omega arith)).0 in let view = ap (λ s. s.view) c.seat.view_is in (
  c.load.ensures.0 ∙ (ap (λ s. s.table) c.seat.view_is ∙ c.requires.seat.0),
  ap (λ m. m.0.name) e ∙ (ap (λ v. v.name) view ∙ c.requires.seat.1),
  ap (λ m. length m.0.marks) e ∙ (length-with_mark (loaded_mark c.load.result) c.args.mark c.seat.inside.place.me.0.marks ∙ (ap (λ v. length v.marks) view ∙ c.requires.seat.2)),
)

pub returns-clause-higher : goal.returns-clause-higher
returns-clause-higher g c = λ m at. (c.load.ensures.2 c.args.mark (omega arith)).1 m (ap (λ v. get_elem? v.marks c.args.mark) (ap (λ s. s.view) c.seat.view_is) ∙ at)
