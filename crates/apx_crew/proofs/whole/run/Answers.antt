use Rattle.std.proofs.Common.{List, refl, sym, subst}
use Rattle.apx_history.specs.declared.Entry.{Entry}
use Rattle.apx_sim.proofs.Heads.{stopped_as}
use Rattle.apx_crew.specs.Headline.{IsDoneByWorkers}
use Rattle.apx_crew.proofs.Ended.{done_by}
use Rattle.apx_crew.proofs.Sending.{crew_send}
use denote.Param.Send.{sendable}
use Rattle.apx_crew.proofs.whole.run.Goals as goal

pub returns-clause-history : goal.returns-clause-history
returns-clause-history g c =
    let run = g.J.Naming.run in
    let es = c.run_threads-core.result.core.stores.course.journal in
    subst (λ (fs : List Entry). IsDoneByWorkers run.job c.args.workers run.stored fs) (sym c.closed.ensures.journal)
    (done_by run c.requires.planned c.requires.from es c.run_threads-core.ensures.over c.args.workers c.run_threads-core.ensures.history c.run_threads-core.ensures.workers)

pub returns-clause-stopped : goal.returns-clause-stopped
returns-clause-stopped g c =
    let run = g.J.Naming.run in
    let left = c.closed.result in
    stopped_as _ run.job run.told g.V.Vault.tells g.P.S.Spool.tells run.stored left.journal left.journal left.fault left.fault _ _ _ _ _ _ _ _ _ _ _ _ c.closed.ensures.stopped
    refl refl (sym c.requires.keeper) (sym c.requires.vault) (sym c.requires.spools) refl refl refl

-- a core may go to another thread where its devices and its name may
pub run_threads-core-requires-send-S : goal.run_threads-core-requires-send-S
run_threads-core-requires-send-S g c κs within =
    let bounds = c.type_bounds in
    let sk = bounds.send-K in let sv = bounds.send-V in let sp = bounds.send-P in let sj = bounds.send-J in let ss = bounds.send-P-S in let sf = bounds.send-P-S-Fault in
    search (sendable, crew_send) depth 60 fits 5000
