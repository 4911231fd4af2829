use Rattle.std.proofs.Common.{◌≡◌, ℕ, false, List, Option, None, sym, ap, subst, ◌∙◌}
use Rattle.apx_history.specs.declared.Entry.{Entry}
use Rattle.apx_history.specs.declared.Event.TheVariants.{End}
use Rattle.apx_history.specs.State.{State, running}
use Rattle.apx_course.specs.Faults.{status_of}
use Rattle.apx_promise.specs.Histories.{EndsWith}
use Rattle.apx_stores.specs.Whole.{FitsKeeper}
use Rattle.apx_sim.specs.Headline.{left_by, KeepsNeeded, EndsWhole, HasCheckpoints, IsStopped, IsReadable}
use Rattle.apx_sim.proofs.Heads.{history_of, left_is, keeps_needed, ends_whole, ends_with, stopped_as, loses_none}
use Rattle.apx_sim.proofs.Checkpoints.{has_checkpoints}
use Rattle.apx_sim.proofs.Stored.{begins_stored}
use Rattle.apx_stores.specs.Crashes.{EntriesFollow}
use Rattle.apx_core.specs.Crashes.{IsOfRun}
use Rattle.apx_sim.proofs.whole.run.Goals as goal

pub returns-clause-needed : goal.returns-clause-needed
returns-clause-needed g c =
    let run = g.J.Naming.run in
    let es = c.sim-core.result.stores.course.journal in
    let history = history_of run c.requires.planned c.requires.from es c.facts.ensures.history in
    subst (λ (fs : List Entry). KeepsNeeded run.job run.stored fs) (sym c.close.ensures.journal) (keeps_needed run.job run.stored es history)

pub returns-clause-whole : goal.returns-clause-whole
returns-clause-whole g c =
    let run = g.J.Naming.run in
    let es = c.sim-core.result.stores.course.journal in
    let history = history_of run c.requires.planned c.requires.from es c.facts.ensures.history in
    let m = c.sim-core.result.stores.course.machine in
    let fault = c.sim-core.result.stores.course.fault in
    let now : m ≡ left_by run.job run.stored es = c.facts.ensures.now ∙ left_is run c.requires.planned c.requires.from es in
    let same : (left_by run.job run.stored es).fault ≡ status_of fault = subst (λ (n : State). n.fault ≡ status_of fault) now c.facts.ensures.same in
    let stands : running (left_by run.job run.stored es) ≡ false = subst (λ (n : State). running n ≡ false) now c.sim-core.ensures.driven.stands in
    subst (λ (fs : List Entry). EndsWhole run.job run.stored fs c.close.result.fault) (sym c.close.ensures.journal)
    (subst (λ f. EndsWhole run.job run.stored es f) (sym c.close.ensures.fault)
    (ends_whole run.job run.stored es history fault stands same))

pub returns-clause-store : goal.returns-clause-store
returns-clause-store g c = λ begins.
    let run = g.J.Naming.run in
    let es = c.sim-core.result.stores.course.journal in
    let m = c.sim-core.result.stores.course.machine in
    let fault = c.sim-core.result.stores.course.fault in
    let now : m ≡ left_by run.job run.stored es = c.facts.ensures.now ∙ left_is run c.requires.planned c.requires.from es in
    let rows = g.K.Keeper.stored c.sim-core.result.stores.keeper in
    let fits : FitsKeeper run.job.flow m.fault m.stored rows = subst (λ (f : Option ℕ). FitsKeeper run.job.flow f m.stored rows) (sym c.facts.ensures.same) (c.facts.ensures.rows begins) in
    subst (λ (fs : List Entry). FitsKeeper run.job.flow (left_by run.job run.stored fs).fault (left_by run.job run.stored fs).stored (g.K.Keeper.stored c.close.result.devices.keeper)) (sym c.close.ensures.journal)
    (subst (λ k. FitsKeeper run.job.flow (left_by run.job run.stored es).fault (left_by run.job run.stored es).stored (g.K.Keeper.stored k)) (sym c.close.ensures.keeper)
    (subst (λ (n : State). FitsKeeper run.job.flow n.fault n.stored rows) now fits))

pub returns-clause-checkpoints : goal.returns-clause-checkpoints
returns-clause-checkpoints g c =
    let run = g.J.Naming.run in
    let es = c.sim-core.result.stores.course.journal in
    let history = history_of run c.requires.planned c.requires.from es c.facts.ensures.history in
    let m = c.sim-core.result.stores.course.machine in
    let fault = c.sim-core.result.stores.course.fault in
    let vault = c.sim-core.result.stores.vault in
    let now : m ≡ left_by run.job run.stored es = c.facts.ensures.now ∙ left_is run c.requires.planned c.requires.from es in
    let same : (left_by run.job run.stored es).fault ≡ status_of fault = subst (λ (n : State). n.fault ≡ status_of fault) now c.facts.ensures.same in
    let stands : running (left_by run.job run.stored es) ≡ false = subst (λ (n : State). running n ≡ false) now c.sim-core.ensures.driven.stands in
    let ends : fault ≡ None → EndsWith End es = ends_with run.job run.stored es history fault stands same in
    subst (λ f. HasCheckpoints run.job run.told g.V.Vault.tells f run.entries (g.V.Vault.held c.close.result.devices.vault)) (sym c.close.ensures.fault)
    (subst (λ v. HasCheckpoints run.job run.told g.V.Vault.tells fault run.entries (g.V.Vault.held v)) (sym c.close.ensures.vault)
    (has_checkpoints _ run es fault g.V.Vault.tells m (g.V.Vault.held vault) c.requires.planned c.facts.ensures.history c.facts.ensures.now ends
    (g.met.V.Vault.ordered vault) c.facts.ensures.saves))

pub returns-clause-stopped : goal.returns-clause-stopped
returns-clause-stopped g c =
    let run = g.J.Naming.run in
    let es = c.sim-core.result.stores.course.journal in
    let m = c.sim-core.result.stores.course.machine in
    let fault = c.sim-core.result.stores.course.fault in
    let now : m ≡ left_by run.job run.stored es = c.facts.ensures.now ∙ left_is run c.requires.planned c.requires.from es in
    let same : (left_by run.job run.stored es).fault ≡ status_of fault = subst (λ (n : State). n.fault ≡ status_of fault) now c.facts.ensures.same in
    let k = g.K.Keeper.faults c.sim-core.result.stores.keeper in
    let v = g.V.Vault.faults c.sim-core.result.stores.vault in
    let p = g.P.Spools.faults c.sim-core.result.stores.spools in
    let stopped : IsStopped run.job run.stored es fault run.told g.V.Vault.tells g.P.S.Spool.tells (record { keeper = run.keeper; vault = run.vault; spools = run.spools }) (record { keeper = k; vault = v; spools = p }) =
    record { status = same; cause = c.facts.ensures.caused; later = c.facts.ensures.later } in
    stopped_as _ run.job run.told g.V.Vault.tells g.P.S.Spool.tells run.stored es c.close.result.journal fault c.close.result.fault _ _ _ _ _ _ _ _ _ _ _ _ stopped
    (sym c.close.ensures.journal) (sym c.close.ensures.fault) (sym c.requires.keeper) (sym c.requires.vault) (sym c.requires.spools)
    (sym (ap (λ x. g.K.Keeper.faults x) c.close.ensures.keeper)) (sym (ap (λ x. g.V.Vault.faults x) c.close.ensures.vault)) (sym (ap (λ x. g.P.Spools.faults x) c.close.ensures.spools))

pub returns-clause-readable : goal.returns-clause-readable
returns-clause-readable g c =
    let run = g.J.Naming.run in
    let es = c.sim-core.result.stores.course.journal in
    let history = history_of run c.requires.planned c.requires.from es c.facts.ensures.history in
    let m = c.sim-core.result.stores.course.machine in
    let fault = c.sim-core.result.stores.course.fault in
    let now : m ≡ left_by run.job run.stored es = c.facts.ensures.now ∙ left_is run c.requires.planned c.requires.from es in
    let same : (left_by run.job run.stored es).fault ≡ status_of fault = subst (λ (n : State). n.fault ≡ status_of fault) now c.facts.ensures.same in
    let stands : running (left_by run.job run.stored es) ≡ false = subst (λ (n : State). running n ≡ false) now c.sim-core.ensures.driven.stands in
    let ends = ends_whole run.job run.stored es history fault stands same in
    let keeper = c.sim-core.result.stores.keeper in
    subst (λ f. IsReadable run.job f (g.K.Keeper.sound c.close.result.devices.keeper) (g.K.Keeper.last c.close.result.devices.keeper)) (sym c.close.ensures.fault)
    (subst (λ k. IsReadable run.job fault (g.K.Keeper.sound k) (g.K.Keeper.last k)) (sym c.close.ensures.keeper)
    (record {
      is_sound = c.facts.ensures.is_sound;
      all = λ none. c.facts.ensures.last none ∙ ap (λ (n : State). n.stored) now ∙ ends.stored none;
    }))

pub returns-clause-windows : goal.returns-clause-windows
returns-clause-windows g c = λ begins.
    let run = g.J.Naming.run in
    let es = c.sim-core.result.stores.course.journal in
    let m = c.sim-core.result.stores.course.machine in
    let now : m ≡ left_by run.job run.stored es = c.facts.ensures.now ∙ left_is run c.requires.planned c.requires.from es in
    let core = c.in_ok-core.core.stores in
    loses_none run c.requires.planned g.K.Keeper.time g.K.Keeper.left core.keeper c.args.devices.keeper c.sim-core.result.stores.keeper c.close.result.devices.keeper core.course.machine.stored m es c.close.result.journal
    c.in_ok-core.ensures.keeper (sym c.close.ensures.keeper) (ap (λ (n : State). n.stored) c.in_ok-core.ensures.machine ∙ begins_stored run.plan run.stored 0) (sym c.close.ensures.journal) now
    (c.sim-core.ensures.rows begins) (c.facts.ensures.durable begins)

pub returns-clause-entries : goal.returns-clause-entries
returns-clause-entries g c = λ t.
    let run = g.J.Naming.run in
    let good = IsOfRun run.job run.told in
    subst (λ v. EntriesFollow good g.V.Vault.time g.V.Vault.left g.V.Vault.held v c.close.result.devices.vault) c.in_ok-core.ensures.vault
    (subst (λ v. EntriesFollow good g.V.Vault.time g.V.Vault.left g.V.Vault.held c.in_ok-core.core.stores.vault v) (sym c.close.ensures.vault) (c.sim-core.ensures.entries t))
