use Rattle.std.proofs.Common.{refl, ap, ◌∙◌}
use Rattle.apx_history.specs.declared.Event.TheVariants.{Save, Advance, Commit, Purge, Repartition, End}
use Rattle.apx_sim.proofs.Opened.{may_as}
use Rattle.apx_sim.proofs.Benches.{StartsNone, passed}
use Rattle.apx_stores.proofs.Crashing.{rows_stay, entries_stay, entries_begin, entries_weaker}
use Rattle.apx_stores.specs.Crashes.{NoPut}
use Rattle.apx_core.specs.Crashes.{IsOfRun}
use Rattle.apx_history.proofs.Legal.{can_runs}
use Rattle.apx_sim.proofs.bench.Bench.perform.Goals as goal

pub invariant_of-self : goal.invariant_of-self
invariant_of-self g c =
    let plan = g.J.Naming.run.plan in
    let old = c.self.inside.core.stores.course in
    let other : StartsNone (Save c.in-Save.op c.in-Save.part c.in-Save.window) = λ o i w e. cc in
    passed plan old c.save.new.self.stores.course 0 c.self.inside.hands c.self.invariant c.args.event (Save c.in-Save.op c.in-Save.part c.in-Save.window) other
    (may_as plan c.args.self.now.stores.course.machine old.machine c.args.event c.args.event (ap (λ k. k.stores.course.machine) c.self.view_is) refl c.requires.can)
    c.in-Save.is c.save.result c.save.ensures.did c.save.ensures.stops

pub invariant_of-self-in-Advance : goal.invariant_of-self-in-Advance
invariant_of-self-in-Advance g c =
    let plan = g.J.Naming.run.plan in
    let old = c.self.inside.core.stores.course in
    let other : StartsNone (Advance c.in-Advance.op c.in-Advance.part c.in-Advance.to) = λ o i w e. cc in
    passed plan old c.advance.new.self.stores.course 0 c.self.inside.hands c.self.invariant c.args.event (Advance c.in-Advance.op c.in-Advance.part c.in-Advance.to) other
    (may_as plan c.args.self.now.stores.course.machine old.machine c.args.event c.args.event (ap (λ k. k.stores.course.machine) c.self.view_is) refl c.requires.can)
    c.in-Advance.is c.advance.result c.advance.ensures.did c.advance.ensures.stops

pub invariant_of-self-in-Commit : goal.invariant_of-self-in-Commit
invariant_of-self-in-Commit g c =
    let plan = g.J.Naming.run.plan in
    let old = c.self.inside.core.stores.course in
    let other : StartsNone (Commit c.in-Commit.to) = λ o i w e. cc in
    passed plan old c.commit.new.self.stores.course 0 c.self.inside.hands c.self.invariant c.args.event (Commit c.in-Commit.to) other
    (may_as plan c.args.self.now.stores.course.machine old.machine c.args.event c.args.event (ap (λ k. k.stores.course.machine) c.self.view_is) refl c.requires.can)
    c.in-Commit.is c.commit.result c.commit.ensures.did c.commit.ensures.stops

pub invariant_of-self-in-Purge : goal.invariant_of-self-in-Purge
invariant_of-self-in-Purge g c =
    let plan = g.J.Naming.run.plan in
    let old = c.self.inside.core.stores.course in
    let other : StartsNone (Purge c.in-Purge.op c.in-Purge.part c.in-Purge.to) = λ o i w e. cc in
    passed plan old c.purge.new.self.stores.course 0 c.self.inside.hands c.self.invariant c.args.event (Purge c.in-Purge.op c.in-Purge.part c.in-Purge.to) other
    (may_as plan c.args.self.now.stores.course.machine old.machine c.args.event c.args.event (ap (λ k. k.stores.course.machine) c.self.view_is) refl c.requires.can)
    c.in-Purge.is c.purge.result c.purge.ensures.did c.purge.ensures.stops

pub invariant_of-self-in-Repartition : goal.invariant_of-self-in-Repartition
invariant_of-self-in-Repartition g c =
    let plan = g.J.Naming.run.plan in
    let old = c.self.inside.core.stores.course in
    let other : StartsNone (Repartition c.in-Repartition.line) = λ o i w e. cc in
    passed plan old c.repartition.new.self.stores.course 0 c.self.inside.hands c.self.invariant c.args.event (Repartition c.in-Repartition.line) other
    (may_as plan c.args.self.now.stores.course.machine old.machine c.args.event c.args.event (ap (λ k. k.stores.course.machine) c.self.view_is) refl c.requires.can)
    c.in-Repartition.is c.repartition.result c.repartition.ensures.did c.repartition.ensures.stops

pub invariant_of-self-in-End : goal.invariant_of-self-in-End
invariant_of-self-in-End g c =
    let plan = g.J.Naming.run.plan in
    let old = c.self.inside.core.stores.course in
    let other : StartsNone End = λ o i w e. cc in
    passed plan old c.end.new.self.stores.course 0 c.self.inside.hands c.self.invariant c.args.event End other
    (may_as plan c.args.self.now.stores.course.machine old.machine c.args.event c.args.event (ap (λ k. k.stores.course.machine) c.self.view_is) refl c.requires.can)
    c.in-End.is c.end.result c.end.ensures.did c.end.ensures.stops

pub returns-in-Start-clause-rows : goal.returns-in-Start-clause-rows
returns-in-Start-clause-rows g c =
    rows_stay g.J.Naming.run g.K.Keeper.tells g.K.Keeper.time g.K.Keeper.left c.args.self.now.stores.course.machine.stored c.args.self.now.stores.keeper c.start.new.self.stores.keeper (c.start.ensures.keeper) c.facts.ensures.durable

pub returns-in-Start-clause-entries : goal.returns-in-Start-clause-entries
returns-in-Start-clause-entries g c = λ t.
    entries_stay g.V.Vault.time g.V.Vault.left g.V.Vault.held (IsOfRun g.J.Naming.run.job g.J.Naming.run.told) c.args.self.now.stores.vault c.start.new.self.stores.vault (c.start.ensures.vault) (c.facts.ensures.settled (can_runs g.J.Naming.run.plan c.args.self.now.stores.course.machine c.args.event c.requires.can) t)

pub returns-in-Finish-clause-rows : goal.returns-in-Finish-clause-rows
returns-in-Finish-clause-rows g c =
    rows_stay g.J.Naming.run g.K.Keeper.tells g.K.Keeper.time g.K.Keeper.left c.args.self.now.stores.course.machine.stored c.args.self.now.stores.keeper c.finish.new.self.stores.keeper (c.finish.ensures.keeper) c.facts.ensures.durable

pub returns-in-Finish-clause-entries : goal.returns-in-Finish-clause-entries
returns-in-Finish-clause-entries g c = λ t.
    entries_stay g.V.Vault.time g.V.Vault.left g.V.Vault.held (IsOfRun g.J.Naming.run.job g.J.Naming.run.told) c.args.self.now.stores.vault c.finish.new.self.stores.vault (c.finish.ensures.vault) (c.facts.ensures.settled (can_runs g.J.Naming.run.plan c.args.self.now.stores.course.machine c.args.event c.requires.can) t)

pub returns-in-Write-clause-entries : goal.returns-in-Write-clause-entries
returns-in-Write-clause-entries g c = λ t.
    entries_stay g.V.Vault.time g.V.Vault.left g.V.Vault.held (IsOfRun g.J.Naming.run.job g.J.Naming.run.told) c.args.self.now.stores.vault c.write.new.self.stores.vault (c.write.ensures.vault) (c.facts.ensures.settled (can_runs g.J.Naming.run.plan c.args.self.now.stores.course.machine c.args.event c.requires.can) t)

pub returns-in-Kill-clause-rows : goal.returns-in-Kill-clause-rows
returns-in-Kill-clause-rows g c =
    rows_stay g.J.Naming.run g.K.Keeper.tells g.K.Keeper.time g.K.Keeper.left c.args.self.now.stores.course.machine.stored c.args.self.now.stores.keeper c.kill.new.self.stores.keeper (c.kill.ensures.keeper) c.facts.ensures.durable

pub returns-in-Kill-clause-entries : goal.returns-in-Kill-clause-entries
returns-in-Kill-clause-entries g c = λ t.
    entries_weaker g.V.Vault.time g.V.Vault.left g.V.Vault.held (IsOfRun g.J.Naming.run.job g.J.Naming.run.told) NoPut (λ id bytes none. absurd none) c.args.self.now.stores.vault c.kill.new.self.stores.vault (c.kill.ensures.entries t)

pub returns-in-Save-clause-rows : goal.returns-in-Save-clause-rows
returns-in-Save-clause-rows g c =
    rows_stay g.J.Naming.run g.K.Keeper.tells g.K.Keeper.time g.K.Keeper.left c.args.self.now.stores.course.machine.stored c.args.self.now.stores.keeper c.save.new.self.stores.keeper (c.save.ensures.keeper ∙ ap (λ k. k.stores.keeper) c.self.view_is) c.facts.ensures.durable

pub returns-in-Save-clause-entries : goal.returns-in-Save-clause-entries
returns-in-Save-clause-entries g c = λ t.
    entries_begin g.V.Vault.time g.V.Vault.left g.V.Vault.held (IsOfRun g.J.Naming.run.job g.J.Naming.run.told) c.args.self.now.stores.vault c.self.inside.core.stores.vault c.save.new.self.stores.vault (ap (λ k. k.stores.vault) c.self.view_is) (c.save.ensures.crash t)

pub returns-in-Advance-clause-rows : goal.returns-in-Advance-clause-rows
returns-in-Advance-clause-rows g c =
    rows_stay g.J.Naming.run g.K.Keeper.tells g.K.Keeper.time g.K.Keeper.left c.args.self.now.stores.course.machine.stored c.args.self.now.stores.keeper c.advance.new.self.stores.keeper (c.advance.ensures.keeper ∙ ap (λ k. k.stores.keeper) c.self.view_is) c.facts.ensures.durable

pub returns-in-Advance-clause-entries : goal.returns-in-Advance-clause-entries
returns-in-Advance-clause-entries g c = λ t.
    entries_stay g.V.Vault.time g.V.Vault.left g.V.Vault.held (IsOfRun g.J.Naming.run.job g.J.Naming.run.told) c.args.self.now.stores.vault c.advance.new.self.stores.vault (c.advance.ensures.vault ∙ ap (λ k. k.stores.vault) c.self.view_is) (c.facts.ensures.settled (can_runs g.J.Naming.run.plan c.args.self.now.stores.course.machine c.args.event c.requires.can) t)

pub returns-in-Commit-clause-rows : goal.returns-in-Commit-clause-rows
returns-in-Commit-clause-rows g c =
    rows_stay g.J.Naming.run g.K.Keeper.tells g.K.Keeper.time g.K.Keeper.left c.args.self.now.stores.course.machine.stored c.args.self.now.stores.keeper c.commit.new.self.stores.keeper (c.commit.ensures.keeper ∙ ap (λ k. k.stores.keeper) c.self.view_is) c.facts.ensures.durable

pub returns-in-Commit-clause-entries : goal.returns-in-Commit-clause-entries
returns-in-Commit-clause-entries g c = λ t.
    entries_weaker g.V.Vault.time g.V.Vault.left g.V.Vault.held (IsOfRun g.J.Naming.run.job g.J.Naming.run.told) NoPut (λ id bytes none. absurd none) c.args.self.now.stores.vault c.commit.new.self.stores.vault
    (entries_begin g.V.Vault.time g.V.Vault.left g.V.Vault.held NoPut c.args.self.now.stores.vault c.self.inside.core.stores.vault c.commit.new.self.stores.vault (ap (λ k. k.stores.vault) c.self.view_is) (c.commit.ensures.crash t))

pub returns-in-Purge-clause-rows : goal.returns-in-Purge-clause-rows
returns-in-Purge-clause-rows g c =
    rows_stay g.J.Naming.run g.K.Keeper.tells g.K.Keeper.time g.K.Keeper.left c.args.self.now.stores.course.machine.stored c.args.self.now.stores.keeper c.purge.new.self.stores.keeper (c.purge.ensures.keeper ∙ ap (λ k. k.stores.keeper) c.self.view_is) c.facts.ensures.durable

pub returns-in-Purge-clause-entries : goal.returns-in-Purge-clause-entries
returns-in-Purge-clause-entries g c = λ t.
    entries_stay g.V.Vault.time g.V.Vault.left g.V.Vault.held (IsOfRun g.J.Naming.run.job g.J.Naming.run.told) c.args.self.now.stores.vault c.purge.new.self.stores.vault (c.purge.ensures.vault ∙ ap (λ k. k.stores.vault) c.self.view_is) (c.facts.ensures.settled (can_runs g.J.Naming.run.plan c.args.self.now.stores.course.machine c.args.event c.requires.can) t)

pub returns-in-Repartition-clause-rows : goal.returns-in-Repartition-clause-rows
returns-in-Repartition-clause-rows g c =
    rows_stay g.J.Naming.run g.K.Keeper.tells g.K.Keeper.time g.K.Keeper.left c.args.self.now.stores.course.machine.stored c.args.self.now.stores.keeper c.repartition.new.self.stores.keeper (c.repartition.ensures.keeper ∙ ap (λ k. k.stores.keeper) c.self.view_is) c.facts.ensures.durable

pub returns-in-Repartition-clause-entries : goal.returns-in-Repartition-clause-entries
returns-in-Repartition-clause-entries g c = λ t.
    entries_begin g.V.Vault.time g.V.Vault.left g.V.Vault.held (IsOfRun g.J.Naming.run.job g.J.Naming.run.told) c.args.self.now.stores.vault c.self.inside.core.stores.vault c.repartition.new.self.stores.vault (ap (λ k. k.stores.vault) c.self.view_is) (c.repartition.ensures.crash t)

pub returns-in-End-clause-rows : goal.returns-in-End-clause-rows
returns-in-End-clause-rows g c =
    rows_stay g.J.Naming.run g.K.Keeper.tells g.K.Keeper.time g.K.Keeper.left c.args.self.now.stores.course.machine.stored c.args.self.now.stores.keeper c.end.new.self.stores.keeper (c.end.ensures.keeper ∙ ap (λ k. k.stores.keeper) c.self.view_is) c.facts.ensures.durable

pub returns-in-End-clause-entries : goal.returns-in-End-clause-entries
returns-in-End-clause-entries g c = λ t.
    entries_stay g.V.Vault.time g.V.Vault.left g.V.Vault.held (IsOfRun g.J.Naming.run.job g.J.Naming.run.told) c.args.self.now.stores.vault c.end.new.self.stores.vault (c.end.ensures.vault ∙ ap (λ k. k.stores.vault) c.self.view_is) (c.facts.ensures.settled (can_runs g.J.Naming.run.plan c.args.self.now.stores.course.machine c.args.event c.requires.can) t)
