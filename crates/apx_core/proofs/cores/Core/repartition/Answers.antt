use Rattle.std.proofs.Common.{◌≡◌, true, OnOk, OnErr, sym, ap, subst}
use Rattle.apx_history.specs.declared.Event.TheVariants.{Repartition}
use Rattle.apx_history.specs.Plan.{line, count_or}
use Rattle.apx_history.specs.State.{State}
use Rattle.apx_history.specs.Enabled.{can}
use Rattle.apx_device.specs.Vault.{entry_at}
use Rattle.apx_course.specs.Course.{Did, Stops}
use Rattle.apx_held.specs.Fits.{Fits}
use Rattle.apx_renew.specs.Renewed.{KeepRenewed}
use Rattle.apx_core.specs.Core.{telling, IsCore}
use Rattle.apx_core.proofs.Checkpoints.{renewed_so}
use Rattle.apx_core.proofs.Going.{core_stops, still_fits, later_stops, later_answers}
use Rattle.apx_stores.proofs.Crashing.{entries_stay, entries_begin, entries_end, entries_go_on, entries_weaker}
use Rattle.apx_reset.specs.Put.{IsRenewal}
use Rattle.apx_core.specs.Crashes.{IsOfRun}
use Rattle.apx_core.proofs.Crashing.{renewal_stands}
use Rattle.apx_core.proofs.cores.Core.repartition.Goals as goal

pub renew_operator-requires-clause-fits : goal.renew_operator-requires-clause-fits
renew_operator-requires-clause-fits g c =
    let run = g.J.Naming.run in
    let vt = g.V.Vault.tells in
    subst (λ v. Fits run.job (telling run vt) (entry_at (g.V.Vault.held v)) c.reserve.new.self.course.machine c.self.inside.contents) (sym c.reserve.ensures.vault)
    (still_fits run vt _ c.self.inside.stores.course c.reserve.new.self.course c.self.inside.contents c.self.invariant.1
    c.in_ok-reserve.ensures.machine c.in_ok-reserve.ensures.fault c.reserve.ensures.none)

pub invariant_of-self : goal.invariant_of-self
invariant_of-self g c = (
  c.self.invariant.0,
  core_stops g.J.Naming.run g.V.Vault.tells (g.V.Vault.held c.self.inside.stores.vault) c.self.inside.stores.course c.reserve.new.self.course
      c.self.inside.contents c.self.invariant.1 _ _ c.args.worker c.in_err-reserve.ensures.stops,
)

pub invariant_of-self-in_err-renew_operator : goal.invariant_of-self-in_err-renew_operator
invariant_of-self-in_err-renew_operator g c = (
  c.self.invariant.0,
  later_stops g.J.Naming.run g.V.Vault.tells (g.V.Vault.held c.self.inside.stores.vault) c.self.inside.stores.course c.reserve.new.self.course c.self.inside.contents
      c.self.invariant.1 c.in_ok-reserve.ensures.machine c.in_ok-reserve.ensures.fault c.reserve.ensures.none c.renew_operator.new.stores.course _ _ c.args.worker
      c.in_err-renew_operator.ensures.stops,
)

pub invariant_of-self-2 : goal.invariant_of-self-2
invariant_of-self-2 g c =
    let run = g.J.Naming.run in
    let new = c.try_add.new.self.course in
    let same = c.in_ok-renew_operator.ensures.course in
    let did = subst (λ s. OnOk c.try_add.result (Did run.plan s new c.args.worker (Repartition c.args.line))) same c.try_add.ensures.did in
    let stops = subst (λ s. OnErr c.try_add.result (Stops run.plan s new c.args.worker)) same c.try_add.ensures.stops in
    let l = line run.plan c.args.line in
    let may : can run.plan c.self.inside.stores.course.machine (Repartition c.args.line) ≡ true =
    subst (λ (m : State). can run.plan m (Repartition c.args.line) ≡ true) (sym (ap (λ s. s.stores.course.machine) c.self.view_is)) c.requires in (
      c.self.invariant.0,
      subst (λ v. IsCore run g.V.Vault.tells (g.V.Vault.held v) new c.renew_operator.new.contents) (sym c.try_add.ensures.vault)
          (later_answers run g.V.Vault.tells _ c.self.inside.stores.course c.reserve.new.self.course c.self.inside.contents c.self.invariant.1
          c.in_ok-reserve.ensures.machine c.in_ok-reserve.ensures.fault c.reserve.ensures.none new _ _ c.args.worker (Repartition c.args.line) c.try_add.result did stops
          c.in_ok-renew_operator.ensures.fits
          (λ tells. renewed_so run c.self.inside.stores.course.machine c.reserve.ensures.is c.reserve.ensures.kept c.args.line _ _ may
          (subst (λ v. KeepRenewed run.job run.told l.op l.window (count_or 0 l.act) (entry_at (g.V.Vault.held v)) (entry_at (g.V.Vault.held c.renew_operator.new.stores.vault)))
          c.reserve.ensures.vault (c.in_ok-renew_operator.ensures.kept tells)))),
    )

pub returns-in_err-reserve-clause-crash : goal.returns-in_err-reserve-clause-crash
returns-in_err-reserve-clause-crash g c = λ t.
    let good = IsOfRun g.J.Naming.run.job g.J.Naming.run.told in
    let none = entries_begin g.V.Vault.time g.V.Vault.left g.V.Vault.held good c.args.self.now.stores.vault c.self.inside.stores.vault c.reserve.new.self.vault (ap (λ x. x.stores.vault) c.self.view_is)
    (entries_stay g.V.Vault.time g.V.Vault.left g.V.Vault.held good c.self.inside.stores.vault c.reserve.new.self.vault c.reserve.ensures.vault (c.reserve.ensures.settled t)) in
    none

pub returns-in_err-renew_operator-clause-crash : goal.returns-in_err-renew_operator-clause-crash
returns-in_err-renew_operator-clause-crash g c = λ t.
    let good = IsOfRun g.J.Naming.run.job g.J.Naming.run.told in
    let none = entries_begin g.V.Vault.time g.V.Vault.left g.V.Vault.held good c.args.self.now.stores.vault c.self.inside.stores.vault c.reserve.new.self.vault (ap (λ x. x.stores.vault) c.self.view_is)
    (entries_stay g.V.Vault.time g.V.Vault.left g.V.Vault.held good c.self.inside.stores.vault c.reserve.new.self.vault c.reserve.ensures.vault (c.reserve.ensures.settled t)) in
    let run = g.J.Naming.run in
    let m = c.self.inside.stores.course.machine in
    let l = line run.plan c.args.line in
    let may : can run.plan m (Repartition c.args.line) ≡ true =
    subst (λ (n : State). can run.plan n (Repartition c.args.line) ≡ true) (sym (ap (λ x. x.stores.course.machine) c.self.view_is)) c.requires in
    let put = entries_weaker g.V.Vault.time g.V.Vault.left g.V.Vault.held good (IsRenewal run l.op l.window (count_or 0 l.act))
    (renewal_stands run c.self.invariant.1.planned m c.reserve.ensures.is c.reserve.ensures.kept c.args.worker c.args.line may)
    c.reserve.new.self.vault c.renew_operator.new.stores.vault (c.renew_operator.ensures.crash t) in
    entries_go_on g.V.Vault.time g.V.Vault.left g.V.Vault.held good c.args.self.now.stores.vault c.reserve.new.self.vault c.renew_operator.new.stores.vault none put

pub returns-clause-crash : goal.returns-clause-crash
returns-clause-crash g c = λ t.
    let good = IsOfRun g.J.Naming.run.job g.J.Naming.run.told in
    let none = entries_begin g.V.Vault.time g.V.Vault.left g.V.Vault.held good c.args.self.now.stores.vault c.self.inside.stores.vault c.reserve.new.self.vault (ap (λ x. x.stores.vault) c.self.view_is)
    (entries_stay g.V.Vault.time g.V.Vault.left g.V.Vault.held good c.self.inside.stores.vault c.reserve.new.self.vault c.reserve.ensures.vault (c.reserve.ensures.settled t)) in
    let run = g.J.Naming.run in
    let m = c.self.inside.stores.course.machine in
    let l = line run.plan c.args.line in
    let may : can run.plan m (Repartition c.args.line) ≡ true =
    subst (λ (n : State). can run.plan n (Repartition c.args.line) ≡ true) (sym (ap (λ x. x.stores.course.machine) c.self.view_is)) c.requires in
    let put = entries_weaker g.V.Vault.time g.V.Vault.left g.V.Vault.held good (IsRenewal run l.op l.window (count_or 0 l.act))
    (renewal_stands run c.self.invariant.1.planned m c.reserve.ensures.is c.reserve.ensures.kept c.args.worker c.args.line may)
    c.reserve.new.self.vault c.renew_operator.new.stores.vault (c.renew_operator.ensures.crash t) in
    entries_end g.V.Vault.time g.V.Vault.left g.V.Vault.held good c.args.self.now.stores.vault c.renew_operator.new.stores.vault c.try_add.new.self.vault c.try_add.ensures.vault
    (entries_go_on g.V.Vault.time g.V.Vault.left g.V.Vault.held good c.args.self.now.stores.vault c.reserve.new.self.vault c.renew_operator.new.stores.vault none put)
