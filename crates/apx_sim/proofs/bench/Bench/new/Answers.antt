use Rattle.std.proofs.Common.{List, sym, ap, subst, ◌∙◌}
use Rattle.apx_history.specs.declared.Entry.{Entry}
use Rattle.apx_history.specs.State.{State}
use Rattle.apx_history.specs.Journals.{beginning, after}
use Rattle.apx_hands.specs.Opened.{Covers}
use Rattle.apx_hands.proofs.Covering.{begins_covered}
use Rattle.apx_sim.specs.Hand.{IsFor}
use Rattle.apx_sim.proofs.bench.Bench.new.Goals as goal

pub invariant_of-result : goal.invariant_of-result
invariant_of-result g c =
    let run = g.J.Naming.run in
    let start = beginning run.plan run.stored run.from in
    λ _. subst (λ (m : State). Covers IsFor m c.in-Ok.hands)
    (sym (c.facts.ensures.now ∙ ap (λ (es : List Entry). after run.plan start es) c.requires))
    (begins_covered IsFor run.plan run.stored run.from c.in-Ok.hands)
