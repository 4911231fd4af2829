use Rattle.std.proofs.Common.{◌≡◌, true, None, sym, ap, subst, ◌∙◌}
use Rattle.apx_history.specs.State.{State, running}
use Rattle.apx_course.proofs.Journals.{no_status, no_fault}
use Rattle.apx_stores.specs.Caused.{IsCaused}
use Rattle.apx_stores.specs.Whole.{counted}
use Rattle.apx_stores.proofs.Wholes.{whole_own}
use Rattle.apx_stores.proofs.Crashing.{durable_same}
use Rattle.apx_stores.proofs.stores.Stores.stop.Goals as goal

pub invariant_of-self : goal.invariant_of-self
invariant_of-self g c =
    let run = g.J.Naming.run in
    let runs : running c.self.inside.course.machine ≡ true = ap (λ s. running s.course.machine) c.self.view_is ∙ c.requires.runs in
    let none : c.self.inside.course.fault ≡ None = no_fault _ (sym c.facts.ensures.same ∙ no_status c.self.inside.course.machine runs) in (
      c.self.invariant.0,
      whole_own run _ _ _ _ _ _ _ _ _ c.self.invariant.1 c.args.fault _ _ none (ap (λ (m : State). m.stored) c.stop.ensures.machine) c.stop.ensures.fault
          (subst (λ s. IsCaused run.job run.told g.V.Vault.tells g.P.S.Spool.tells (counted run)
          (record { keeper = g.K.Keeper.faults s.keeper; vault = g.V.Vault.faults s.vault; spools = g.P.Spools.faults s.spools }) c.args.fault)
          (sym c.self.view_is) c.requires.cause),
      durable_same g.J.Naming.run g.K.Keeper.tells _ _ (g.K.Keeper.left c.self.inside.keeper (g.K.Keeper.time c.self.inside.keeper)) (ap (λ (m : State). m.stored) c.stop.ensures.machine) c.self.invariant.2,
    )
