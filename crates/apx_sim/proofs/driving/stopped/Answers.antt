use Rattle.std.proofs.Common.{List, true, ◌≡◌, sym, ap, subst, ◌∙◌}
use Rattle.apx_history.specs.declared.Entry.{Entry}
use Rattle.apx_history.specs.State.{State, running}
use Rattle.apx_history.specs.Journals.{beginning, after}
use Rattle.apx_sim.proofs.Benches.{begins_running}
use Rattle.apx_stores.proofs.Crashing.{rows_stay, entries_stay}
use Rattle.apx_core.specs.Crashes.{IsOfRun}
use Rattle.apx_sim.proofs.driving.stopped.Goals as goal

pub fail-requires-clause-runs : goal.fail-requires-clause-runs
fail-requires-clause-runs g c =
    let run = g.J.Naming.run in
    let start = beginning run.plan run.stored run.from in
    subst (λ (m : State). running m ≡ true) (sym (c.facts.ensures.now ∙ ap (λ (es : List Entry). after run.plan start es) c.requires))
    (begins_running run.plan run.stored run.from)

pub returns-clause-rows : goal.returns-clause-rows
returns-clause-rows g c =
    rows_stay g.J.Naming.run g.K.Keeper.tells g.K.Keeper.time g.K.Keeper.left c.args.core.stores.course.machine.stored c.args.core.stores.keeper c.fail.new.self.stores.keeper c.fail.ensures.keeper c.facts.ensures.durable

pub returns-clause-entries : goal.returns-clause-entries
returns-clause-entries g c = λ t.
    let run = g.J.Naming.run in
    let start = beginning run.plan run.stored run.from in
    let runs : running c.args.core.stores.course.machine ≡ true =
    subst (λ (m : State). running m ≡ true) (sym (c.facts.ensures.now ∙ ap (λ (es : List Entry). after run.plan start es) c.requires)) (begins_running run.plan run.stored run.from) in
    entries_stay g.V.Vault.time g.V.Vault.left g.V.Vault.held (IsOfRun run.job run.told) c.args.core.stores.vault c.fail.new.self.stores.vault c.fail.ensures.vault (c.facts.ensures.settled runs t)
