use Rattle.std.proofs.Common.{◌≡◌, true, None, Err, sym, ap, ◌∙◌, refl}
use Rattle.apx_cause.proofs.Causes.{Rose-from}
use Rattle.apx_history.specs.State.{State, running}
use Rattle.apx_course.proofs.Journals.{no_status, no_fault}
use Rattle.apx_course.specs.declared.faults.CoreFault.TheVariants.{Memory, Vault}
use Rattle.apx_stores.proofs.Wholes.{whole_vault, whole_vault_stop}
use Rattle.apx_stores.proofs.Crashing.{durable_same, entries_look, entries_begin}
use Rattle.apx_stores.specs.Crashes.{NoPut}
use Rattle.apx_stores.proofs.stores.Stores.fetch.Goals as goal

pub get-requires : goal.get-requires
get-requires g c =
    let runs : running c.self.inside.course.machine ≡ true = ap (λ s. running s.course.machine) c.self.view_is ∙ c.requires in
    let none : c.self.inside.course.fault ≡ None = no_fault _ (sym c.facts.ensures.same ∙ no_status c.self.inside.course.machine runs) in
    c.self.invariant.1.is_vault_sound none

pub invariant_of-self : goal.invariant_of-self
invariant_of-self g c =
    let runs : running c.self.inside.course.machine ≡ true = ap (λ s. running s.course.machine) c.self.view_is ∙ c.requires in
    let none : c.self.inside.course.fault ≡ None = no_fault _ (sym c.facts.ensures.same ∙ no_status c.self.inside.course.machine runs) in
    (c.self.invariant.0, whole_vault g.J.Naming.run _ _ _ _ _ _ _ _ _ c.self.invariant.1 _ _ _ _ refl refl none c.in-Ok.ensures.sound c.in-Ok.ensures.cause.later, c.self.invariant.2)

pub invariant_of-self-in-Err-Failed : goal.invariant_of-self-in-Err-Failed
invariant_of-self-in-Err-Failed g c =
    let runs : running c.self.inside.course.machine ≡ true = ap (λ s. running s.course.machine) c.self.view_is ∙ c.requires in
    let none : c.self.inside.course.fault ≡ None = no_fault _ (sym c.facts.ensures.same ∙ no_status c.self.inside.course.machine runs) in
    let whole = c.self.invariant.1 in (
      c.self.invariant.0,
      whole_vault_stop g.J.Naming.run _ _ _ _ _ _ _ _ _ whole Vault _ _ _ _ none (ap (λ (m : State). m.stored) c.stop.ensures.machine) c.stop.ensures.fault
          c.in-Err-Failed.ensures.cause.later
          (Rose-from _ _ _ whole.vault_counts (c.in-Err-Failed.ensures.cause.rose (ap Err c.in-Err-Failed.field-0-is))),
      durable_same g.J.Naming.run g.K.Keeper.tells _ _ (g.K.Keeper.left c.self.inside.keeper (g.K.Keeper.time c.self.inside.keeper)) (ap (λ (m : State). m.stored) c.stop.ensures.machine) c.self.invariant.2,
    )

pub invariant_of-self-in-Err-Memory : goal.invariant_of-self-in-Err-Memory
invariant_of-self-in-Err-Memory g c =
    let runs : running c.self.inside.course.machine ≡ true = ap (λ s. running s.course.machine) c.self.view_is ∙ c.requires in
    let none : c.self.inside.course.fault ≡ None = no_fault _ (sym c.facts.ensures.same ∙ no_status c.self.inside.course.machine runs) in (
      c.self.invariant.0,
      whole_vault_stop g.J.Naming.run _ _ _ _ _ _ _ _ _ c.self.invariant.1 Memory _ _ _ _ none (ap (λ (m : State). m.stored) c.stop-in-Err-Memory.ensures.machine) c.stop-in-Err-Memory.ensures.fault
          c.in-Err-Memory.ensures.cause.later tt,
      durable_same g.J.Naming.run g.K.Keeper.tells _ _ (g.K.Keeper.left c.self.inside.keeper (g.K.Keeper.time c.self.inside.keeper)) (ap (λ (m : State). m.stored) c.stop-in-Err-Memory.ensures.machine) c.self.invariant.2,
    )

pub returns-in-Ok-clause-crash : goal.returns-in-Ok-clause-crash
returns-in-Ok-clause-crash g c = λ t.
    entries_begin g.V.Vault.time g.V.Vault.left g.V.Vault.held NoPut c.args.self.now.vault c.self.inside.vault c.get.new.self (ap (λ s. s.vault) c.self.view_is)
    (entries_look g.V.Vault.time g.V.Vault.left g.V.Vault.held c.self.inside.vault c.get.new.self (c.get.ensures.held t) (c.get.ensures.crash t))

pub returns-in-Err-Failed-clause-crash : goal.returns-in-Err-Failed-clause-crash
returns-in-Err-Failed-clause-crash g c = λ t.
    entries_begin g.V.Vault.time g.V.Vault.left g.V.Vault.held NoPut c.args.self.now.vault c.self.inside.vault c.get.new.self (ap (λ s. s.vault) c.self.view_is)
    (entries_look g.V.Vault.time g.V.Vault.left g.V.Vault.held c.self.inside.vault c.get.new.self (c.get.ensures.held t) (c.get.ensures.crash t))

pub returns-in-Err-Memory-clause-crash : goal.returns-in-Err-Memory-clause-crash
returns-in-Err-Memory-clause-crash g c = λ t.
    entries_begin g.V.Vault.time g.V.Vault.left g.V.Vault.held NoPut c.args.self.now.vault c.self.inside.vault c.get.new.self (ap (λ s. s.vault) c.self.view_is)
    (entries_look g.V.Vault.time g.V.Vault.left g.V.Vault.held c.self.inside.vault c.get.new.self (c.get.ensures.held t) (c.get.ensures.crash t))
