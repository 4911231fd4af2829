use Rattle.std.proofs.Common.{List, length, sym, ap, ◌∙◌}
use Rattle.apx_tuple.specs.declared.tuple.Tuple.{Tuple}
use Rattle.apx_history.specs.State.{State}
use Rattle.apx_history.specs.Journals.{beginning}
use Rattle.apx_stores.proofs.tests.drive.Goals as goal

pub new-run-requires-clause-last : goal.new-run-requires-clause-last
unfolding beginning
new-run-requires-clause-last g c =
    ap (λ (windows : List (List Tuple)). length windows) c.requires.empty
    ∙ (c.requires.stored ∙ sym (ap (λ (m : State). m.stored) c.in_ok-course.ensures.machine))
