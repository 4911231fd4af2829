use Rattle.std.proofs.Common.{length, map, false, true, ap, ◌∙◌}
use Rattle.std.proofs.lemmas.List.{length-map}
use Rattle.apx_lock.specs.Views.{new_mark}
use Rattle.apx_lock.proofs.Splitting.{length-handed}
use Rattle.apx_lock.proofs.lock.MarkLock.split.Goals as goal

pub returns-clause-seat : goal.returns-clause-seat
returns-clause-seat g c = let e = c.cut-place.ensures.kept.1 in let view = ap (λ s. s.view) c.seat.view_is in (
  c.cut-place.ensures.kept.0 ∙ (ap (λ s. s.table) c.seat.view_is ∙ c.requires.seat.0),
  ap (λ m. m.0.name) e ∙ (ap (λ v. v.name) view ∙ c.requires.seat.1),
  ap (λ m. length m.0.marks) e ∙ (length-handed false c.args.hand c.seat.inside.place.me.0.marks ∙ (ap (λ v. length v.marks) view ∙ c.requires.seat.2)),
)

pub returns-clause-new : goal.returns-clause-new
returns-clause-new g c = let e = c.cut-place.ensures.given.1 in let view = ap (λ s. s.view) c.seat.view_is in let marks = c.seat.inside.place.me.0.marks in (
  c.cut-place.ensures.given.0 ∙ (ap (λ s. s.table) c.seat.view_is ∙ c.requires.seat.0),
  ap (λ m. m.0.name) e ∙ (ap (λ v. v.name) view ∙ c.requires.seat.1),
  ap (λ m. length m.0.marks) e ∙ (length-handed true c.args.hand (map new_mark marks) ∙ (length-map marks new_mark ∙ (ap (λ v. length v.marks) view ∙ c.requires.seat.2))),
)
