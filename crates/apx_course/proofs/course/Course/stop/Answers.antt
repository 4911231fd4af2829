use Rattle.std.proofs.Common.{◌≡◌, ℕ, ◌++◌, ◌∷◌, [], true, sym, ap, subst, ◌∙◌, refl}
use Rattle.apx_history.specs.declared.Event.TheVariants.{Fault}
use Rattle.apx_history.specs.Plan.{Plan}
use Rattle.apx_history.specs.State.{State, running}
use Rattle.apx_history.specs.Enabled.{can}
use Rattle.apx_history.specs.Effects.{next}
use Rattle.apx_course.specs.Course.{entry}
use Rattle.apx_course.proofs.Journals.{runs_stop, fault_may}
use Rattle.apx_course.proofs.course.Course.stop.Goals as goal

pub enter-requires-clause-can : goal.enter-requires-clause-can
enter-requires-clause-can g c =
    let run = g.J.Naming.run in
    let m : c.args.self.now.machine ≡ c.self.inside.machine.state = sym (ap (λ s. s.machine) c.self.view_is) in
    let runs = subst (λ (s : State). running s ≡ true) m c.requires in
    subst (λ (p : Plan). can p c.self.inside.machine.state (Fault c.status-status.result) ≡ true) (sym c.self.invariant.0)
    (subst (λ (k : ℕ). can run.plan c.self.inside.machine.state (Fault k) ≡ true) (sym c.status-status.ensures)
    (fault_may run.plan c.self.inside.machine.state c.args.fault runs))

pub invariant_of-self : goal.invariant_of-self
invariant_of-self g c =
    let run = g.J.Naming.run in
    let m : c.args.self.now.machine ≡ c.self.inside.machine.state = sym (ap (λ s. s.machine) c.self.view_is) in
    let runs = subst (λ (s : State). running s ≡ true) m c.requires in (
      c.enter.ensures.plan ∙ c.self.invariant.0,
      runs_stop run _ _ c.args.worker c.args.fault c.self.invariant.1
          (fault_may run.plan c.self.inside.machine.state c.args.fault runs)
          (c.enter.ensures.state ∙ (ap (λ (p : Plan). next p c.self.inside.machine.state c.args.worker (Fault c.status-status.result)) c.self.invariant.0
          ∙ ap (λ (k : ℕ). next run.plan c.self.inside.machine.state c.args.worker (Fault k)) c.status-status.ensures))
          (c.enter.ensures.entries ∙ ap (λ (k : ℕ). c.self.inside.entries.items ++ entry c.args.worker (Fault k) ∷ []) c.status-status.ensures)
          refl,
    )
