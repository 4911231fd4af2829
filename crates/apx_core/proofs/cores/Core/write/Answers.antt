use Rattle.std.proofs.Common.{◌≡◌, ℕ, true, sym, ap, subst, ◌∙◌, refl}
use Rattle.apx_history.specs.declared.Event.TheVariants.{Write}
use Rattle.apx_history.specs.State.{State}
use Rattle.apx_history.specs.Enabled.{can}
use Rattle.apx_history.specs.Journals.{owed, bears}
use Rattle.apx_history.proofs.Legal.{can_facts}
use Rattle.apx_device.specs.Vault.{entry_at}
use Rattle.apx_pass.specs.Pass.{rows_at, sink_of}
use Rattle.apx_stores.specs.Crashes.{RowsFollow}
use Rattle.apx_core.specs.Claim.{IsOpenFor}
use Rattle.apx_core.specs.Core.{telling, IsCore}
use Rattle.apx_core.proofs.Checkpoints.{left_so}
use Rattle.apx_core.proofs.Bearing.{write_bears, work_rows}
use Rattle.apx_core.proofs.Going.{core_answers}
use Rattle.apx_core.proofs.Changes.{fits_same}
use Rattle.apx_core.proofs.cores.Core.write.Goals as goal

pub invariant_of-self : goal.invariant_of-self
invariant_of-self g c =
    let run = g.J.Naming.run in
    let vt = g.V.Vault.tells in
    let old = c.self.inside.stores in
    let window = c.window.result in
    let machine : old.course.machine ≡ c.args.self.now.stores.course.machine = ap (λ s. s.stores.course.machine) c.self.view_is in
    let may : can run.plan old.course.machine (Write window) ≡ true =
    subst (λ (w : ℕ). can run.plan old.course.machine (Write w) ≡ true) (sym c.window.ensures)
    (subst (λ (m : State). can run.plan m (Write c.args.claim.now.window) ≡ true) (sym machine) c.requires.can) in (
      c.self.invariant.0,
      subst (λ v. IsCore run vt (g.V.Vault.held v) c.write.new.self.course c.self.inside.contents) (sym c.write.ensures.vault)
          (core_answers run vt (g.V.Vault.held old.vault) old.course c.write.new.self.course c.self.inside.contents c.self.invariant.1
          (g.V.Vault.held old.vault) c.self.inside.contents c.worker.result (Write window) c.write.result
          c.write.ensures.did c.write.ensures.stops c.write.ensures.did
          (λ _ fits. fits_same run.job (telling run vt) old.course.machine c.self.inside.contents (entry_at (g.V.Vault.held old.vault))
          (record old.course.machine { stored = window }) refl fits)
          (λ _ tells. left_so run old.course.machine c.facts.ensures.history.is c.facts.ensures.kept (Write window) _ _ may refl refl)),
    )

pub write-requires-clause-bears : goal.write-requires-clause-bears
write-requires-clause-bears g c =
    let plan = g.J.Naming.run.plan in
    let m = c.self.inside.stores.course.machine in
    let claim = c.args.claim.now in
    let machine : m ≡ c.args.self.now.stores.course.machine = ap (λ s. s.stores.course.machine) c.self.view_is in
    let may = subst (λ (n : State). can plan n (Write claim.window) ≡ true) (sym machine) c.requires.can in
    let opened = subst (λ (n : State). IsOpenFor n claim) (sym machine) c.requires.opened in
    let bear = write_bears plan m claim opened c.facts.ensures.history.is c.facts.ensures.kept (can_facts plan m (Write claim.window) may) c.requires.sink in
    subst (λ (w : ℕ). bears (owed plan m (Write w)) c.worker.result ≡ true) (sym c.window.ensures)
    (subst (λ (u : ℕ). bears (owed plan m (Write claim.window)) u ≡ true) (sym c.worker.ensures) bear)

pub write-requires-clause-rows : goal.write-requires-clause-rows
write-requires-clause-rows g c t =
    let run = g.J.Naming.run in
    c.tuples.ensures.tuples
    ∙ (work_rows run c.args.claim.now c.args.done.now c.self.invariant.1.planned c.known.ensures.graph c.requires.sink c.requires.work t
    ∙ ap (λ (w : ℕ). rows_at run.job.flow w (sink_of run.job.flow.nodes)) (sym c.window.ensures))

pub returns-clause-crash : goal.returns-clause-crash
returns-clause-crash g c =
    subst (λ x. RowsFollow g.J.Naming.run g.K.Keeper.tells x.stores.course.machine.stored g.K.Keeper.time g.K.Keeper.left x.stores.keeper c.write.new.self.keeper)
    c.self.view_is c.write.ensures.crash
