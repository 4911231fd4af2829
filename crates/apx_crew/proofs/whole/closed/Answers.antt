use Rattle.std.proofs.Common.{◌≡◌, ℕ, List, Option, None, refl, sym, ap, subst, ◌∙◌}
use Rattle.apx_history.specs.declared.Entry.{Entry}
use Rattle.apx_history.specs.declared.Event.TheVariants.{End}
use Rattle.apx_history.specs.State.{State}
use Rattle.apx_course.specs.Faults.{status_of}
use Rattle.apx_promise.specs.Histories.{EndsWith}
use Rattle.apx_stores.specs.Whole.{FitsKeeper, counted}
use Rattle.apx_sim.specs.Headline.{left_by, KeepsNeeded, EndsWhole, HasCheckpoints, IsStopped, IsReadable}
use Rattle.apx_sim.proofs.Heads.{history_of, left_is, keeps_needed, ends_whole, ends_with, stopped_as}
use Rattle.apx_sim.proofs.Checkpoints.{has_checkpoints}
use Rattle.apx_crew.proofs.Ended.{stands_left}
use Rattle.apx_crew.proofs.whole.closed.Goals as goal

pub returns-clause-store : goal.returns-clause-store
returns-clause-store g c = λ begins.
    let run = g.J.Naming.run in
    let es = c.args.core.stores.course.journal in
    let m = c.args.core.stores.course.machine in
    let fault = c.args.core.stores.course.fault in
    let now : m ≡ left_by run.job run.stored es = c.facts.ensures.now ∙ left_is run c.facts.ensures.planned c.requires.from es in
    let rows = g.K.Keeper.stored c.args.core.stores.keeper in
    let fits : FitsKeeper run.job.flow m.fault m.stored rows = subst (λ (f : Option ℕ). FitsKeeper run.job.flow f m.stored rows) (sym c.facts.ensures.same) (c.facts.ensures.rows begins) in
    subst (λ (fs : List Entry). FitsKeeper run.job.flow (left_by run.job run.stored fs).fault (left_by run.job run.stored fs).stored (g.K.Keeper.stored c.close.result.devices.keeper)) (sym c.close.ensures.journal)
    (subst (λ k. FitsKeeper run.job.flow (left_by run.job run.stored es).fault (left_by run.job run.stored es).stored (g.K.Keeper.stored k)) (sym c.close.ensures.keeper)
    (subst (λ (n : State). FitsKeeper run.job.flow n.fault n.stored rows) now fits))

pub returns-clause-needed : goal.returns-clause-needed
returns-clause-needed g c =
    let run = g.J.Naming.run in
    let es = c.args.core.stores.course.journal in
    let history = history_of run c.facts.ensures.planned c.requires.from es c.facts.ensures.history in
    subst (λ (fs : List Entry). KeepsNeeded run.job run.stored fs) (sym c.close.ensures.journal) (keeps_needed run.job run.stored es history)

pub returns-clause-whole : goal.returns-clause-whole
returns-clause-whole g c =
    let run = g.J.Naming.run in
    let es = c.args.core.stores.course.journal in
    let history = history_of run c.facts.ensures.planned c.requires.from es c.facts.ensures.history in
    let m = c.args.core.stores.course.machine in
    let fault = c.args.core.stores.course.fault in
    let now : m ≡ left_by run.job run.stored es = c.facts.ensures.now ∙ left_is run c.facts.ensures.planned c.requires.from es in
    let same : (left_by run.job run.stored es).fault ≡ status_of fault = subst (λ (n : State). n.fault ≡ status_of fault) now c.facts.ensures.same in
    let stands = stands_left run c.facts.ensures.planned c.requires.from es c.requires.over in
    subst (λ (fs : List Entry). EndsWhole run.job run.stored fs c.close.result.fault) (sym c.close.ensures.journal)
    (subst (λ f. EndsWhole run.job run.stored es f) (sym c.close.ensures.fault)
    (ends_whole run.job run.stored es history fault stands same))

pub returns-clause-checkpoints : goal.returns-clause-checkpoints
returns-clause-checkpoints g c =
    let run = g.J.Naming.run in
    let es = c.args.core.stores.course.journal in
    let history = history_of run c.facts.ensures.planned c.requires.from es c.facts.ensures.history in
    let m = c.args.core.stores.course.machine in
    let fault = c.args.core.stores.course.fault in
    let vault = c.args.core.stores.vault in
    let now : m ≡ left_by run.job run.stored es = c.facts.ensures.now ∙ left_is run c.facts.ensures.planned c.requires.from es in
    let same : (left_by run.job run.stored es).fault ≡ status_of fault = subst (λ (n : State). n.fault ≡ status_of fault) now c.facts.ensures.same in
    let stands = stands_left run c.facts.ensures.planned c.requires.from es c.requires.over in
    let ends : fault ≡ None → EndsWith End es = ends_with run.job run.stored es history fault stands same in
    subst (λ f. HasCheckpoints run.job run.told g.V.Vault.tells f run.entries (g.V.Vault.held c.close.result.devices.vault)) (sym c.close.ensures.fault)
    (subst (λ v. HasCheckpoints run.job run.told g.V.Vault.tells fault run.entries (g.V.Vault.held v)) (sym c.close.ensures.vault)
    (has_checkpoints _ run es fault g.V.Vault.tells m (g.V.Vault.held vault) c.facts.ensures.planned c.facts.ensures.history c.facts.ensures.now ends
    (g.met.V.Vault.ordered vault) c.facts.ensures.saves))

pub returns-clause-stopped : goal.returns-clause-stopped
returns-clause-stopped g c =
    let run = g.J.Naming.run in
    let es = c.args.core.stores.course.journal in
    let m = c.args.core.stores.course.machine in
    let fault = c.args.core.stores.course.fault in
    let now : m ≡ left_by run.job run.stored es = c.facts.ensures.now ∙ left_is run c.facts.ensures.planned c.requires.from es in
    let same : (left_by run.job run.stored es).fault ≡ status_of fault = subst (λ (n : State). n.fault ≡ status_of fault) now c.facts.ensures.same in
    let k = g.K.Keeper.faults c.args.core.stores.keeper in
    let v = g.V.Vault.faults c.args.core.stores.vault in
    let p = g.P.Spools.faults c.args.core.stores.spools in
    let stopped : IsStopped run.job run.stored es fault run.told g.V.Vault.tells g.P.S.Spool.tells (counted run) (record { keeper = k; vault = v; spools = p }) =
    record { status = same; cause = c.facts.ensures.caused; later = c.facts.ensures.later } in
    stopped_as _ run.job run.told g.V.Vault.tells g.P.S.Spool.tells run.stored es c.close.result.journal fault c.close.result.fault _ _ _ _ _ _ _ _ _ _ _ _ stopped
    (sym c.close.ensures.journal) (sym c.close.ensures.fault) refl refl refl
    (sym (ap (λ x. g.K.Keeper.faults x) c.close.ensures.keeper)) (sym (ap (λ x. g.V.Vault.faults x) c.close.ensures.vault)) (sym (ap (λ x. g.P.Spools.faults x) c.close.ensures.spools))

pub returns-clause-readable : goal.returns-clause-readable
returns-clause-readable g c =
    let run = g.J.Naming.run in
    let es = c.args.core.stores.course.journal in
    let history = history_of run c.facts.ensures.planned c.requires.from es c.facts.ensures.history in
    let m = c.args.core.stores.course.machine in
    let fault = c.args.core.stores.course.fault in
    let now : m ≡ left_by run.job run.stored es = c.facts.ensures.now ∙ left_is run c.facts.ensures.planned c.requires.from es in
    let same : (left_by run.job run.stored es).fault ≡ status_of fault = subst (λ (n : State). n.fault ≡ status_of fault) now c.facts.ensures.same in
    let stands = stands_left run c.facts.ensures.planned c.requires.from es c.requires.over in
    let ends = ends_whole run.job run.stored es history fault stands same in
    let keeper = c.args.core.stores.keeper in
    subst (λ f. IsReadable run.job f (g.K.Keeper.sound c.close.result.devices.keeper) (g.K.Keeper.last c.close.result.devices.keeper)) (sym c.close.ensures.fault)
    (subst (λ k. IsReadable run.job fault (g.K.Keeper.sound k) (g.K.Keeper.last k)) (sym c.close.ensures.keeper)
    (record {
      is_sound = c.facts.ensures.is_sound;
      all = λ none. c.facts.ensures.last none ∙ ap (λ (n : State). n.stored) now ∙ ends.stored none;
    }))
