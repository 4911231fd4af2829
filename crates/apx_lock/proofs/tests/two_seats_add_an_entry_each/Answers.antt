use Rattle.std.proofs.Common.{◌≡◌, List, refl, ap, ◌∙◌, arith}
use lib.ListN.{get_elem?}
use Rattle.apx_lock.specs.declared.view.Mark.{Mark}
use Rattle.apx_lock.proofs.tests.two_seats_add_an_entry_each.Goals as goal

pub raise_mark-requires-clause-owner : goal.raise_mark-requires-clause-owner
raise_mark-requires-clause-owner g c =
    let marks = c.write_and_leave.ensures.same.marks ∙ (ap (λ v. v.marks) c.enter-turn.ensures.entered.view ∙ (ap (λ v. v.marks) c.split-second.ensures.kept ∙ ap (λ v. v.marks) c.in-Ok.ensures.view)) in
    (record { owned = Rattle.std.proofs.Common.true; at = 0; lower = 0; loads = 0 }, ap (λ (l : List Mark). get_elem? l 0) marks, refl, omega arith)
