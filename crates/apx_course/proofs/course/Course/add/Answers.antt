use Rattle.std.proofs.Common.{◌≡◌, ◌+◌, ◌≤◌, length, true, sym, ap, subst, ◌∙◌, refl}
use Rattle.apx_history.specs.Plan.{Plan}
use Rattle.apx_history.specs.State.{State}
use Rattle.apx_history.specs.Enabled.{can}
use Rattle.apx_history.specs.Effects.{next}
use Rattle.apx_history.specs.Journals.{owed, bears}
use Rattle.apx_course.specs.Course.{Standing}
use Rattle.apx_course.proofs.Journals.{runs_add}
use Rattle.apx_course.proofs.course.Course.add.Goals as goal

pub invariant_of-self : goal.invariant_of-self
invariant_of-self g c =
    let run = g.J.Naming.run in
    let m : c.args.self.now.machine ≡ c.self.inside.machine.state = sym (ap (λ s. s.machine) c.self.view_is) in (
      c.enter.ensures.plan ∙ c.self.invariant.0,
      runs_add run _ _ c.args.worker c.args.event c.self.invariant.1
          (subst (λ (s : State). can run.plan s c.args.event ≡ true) m c.requires.can)
          (subst (λ (s : State). bears (owed run.plan s c.args.event) c.args.worker ≡ true) m c.requires.bears)
          c.requires.goes
          (subst (λ (s : Standing g.row.F.Denot). length s.journal + 2 ≤ s.places) (sym c.self.view_is) c.requires.place)
          (c.enter.ensures.state ∙ ap (λ (p : Plan). next p c.self.inside.machine.state c.args.worker c.args.event) c.self.invariant.0)
          c.enter.ensures.entries c.enter.ensures.places refl,
    )
