use Rattle.std.proofs.Common.{◌≡◌, true, Some, refl, ap, ◌∙◌, arith}
use lib.ListN.{get_elem?}
use Rattle.apx_lock.specs.Views.{after_split, dealt_view, after_load, after_raise, after_join}
use Rattle.apx_lock.proofs.tests.a_mark_goes_with_its_seat_and_comes_back.Goals as goal

pub split-second-requires-clause-owner : goal.split-second-requires-clause-owner
split-second-requires-clause-owner g c = (record { owned = true; at = 0; lower = 0; loads = 0 }, ap (λ v. get_elem? v.marks 1) c.in-Ok.ensures.view, refl)

pub raise_mark-requires-clause-owner : goal.raise_mark-requires-clause-owner
raise_mark-requires-clause-owner g c =
    (record { owned = true; at = 0; lower = 0; loads = 0 }, ap (λ v. get_elem? v.marks 1) (c.split-second.ensures.given ∙ ap (dealt_view (Some 1)) c.in-Ok.ensures.view), refl, omega arith)

pub raise_mark-requires-2-clause-owner : goal.raise_mark-requires-2-clause-owner
raise_mark-requires-2-clause-owner g c =
    let first = c.lower_bound-2.ensures.loaded ∙ ap (after_load 1 c.lower_bound-2.result) (c.lower_bound.ensures.loaded ∙ ap (after_load 0 c.lower_bound.result) (c.split-second.ensures.kept ∙ ap (after_split (Some 1)) c.in-Ok.ensures.view)) in
    let second = c.raise_mark.ensures.raised ∙ ap (after_raise 1 7) (c.split-second.ensures.given ∙ ap (dealt_view (Some 1)) c.in-Ok.ensures.view) in
    (record { owned = true; at = 7; lower = c.lower_bound-2.result; loads = 1 }, ap (λ v. get_elem? v.marks 1) (c.join.ensures.joined ∙ (λ i. after_join (first i) (second i))), refl, omega arith)
