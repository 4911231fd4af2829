use Rattle.std.proofs.Common.{◌≡◌, true, refl, sym, ap, subst, ◌∙◌}
use Rattle.apx_history.specs.declared.Event.TheVariants.{Kill}
use Rattle.apx_history.specs.State.{State}
use Rattle.apx_history.specs.Enabled.{can}
use Rattle.apx_history.specs.Journals.{owed, bears}
use Rattle.apx_device.specs.Vault.{entry_at}
use Rattle.apx_course.specs.Course.{Standing, Did}
use Rattle.apx_held.specs.Fits.{Fits}
use Rattle.apx_core.specs.Core.{telling, IsCore}
use Rattle.apx_core.proofs.Checkpoints.{left_so}
use Rattle.apx_core.proofs.Bearing.{kill_bears}
use Rattle.apx_core.proofs.Going.{core_stops, still_fits, later_stops, later_did}
use Rattle.apx_stores.specs.Crashes.{NoPut}
use Rattle.apx_stores.proofs.Crashing.{entries_stay, entries_begin, entries_end, entries_go_on}
use Rattle.apx_core.proofs.cores.Core.kill.Goals as goal

pub reset_tree-requires-clause-fits : goal.reset_tree-requires-clause-fits
reset_tree-requires-clause-fits g c =
    let run = g.J.Naming.run in
    let vt = g.V.Vault.tells in
    subst (λ v. Fits run.job (telling run vt) (entry_at (g.V.Vault.held v)) c.reserve.new.self.course.machine c.self.inside.contents) (sym c.reserve.ensures.vault)
    (still_fits run vt _ c.self.inside.stores.course c.reserve.new.self.course c.self.inside.contents c.self.invariant.1
    c.in_ok-reserve.ensures.machine c.in_ok-reserve.ensures.fault c.reserve.ensures.none)

pub add-requires-clause-bears : goal.add-requires-clause-bears
add-requires-clause-bears g c =
    let plan = g.J.Naming.run.plan in
    let machine = ap (λ (s : Standing _). s.machine) c.in_ok-reset_tree.ensures.course ∙ (c.in_ok-reserve.ensures.machine ∙ ap (λ s. s.stores.course.machine) c.self.view_is) in
    subst (λ (m : State). bears (owed plan m (Kill c.args.line)) c.args.worker ≡ true) (sym machine)
    (kill_bears plan c.args.self.now.stores.course.machine c.args.line c.args.worker c.args.claim c.requires.claim)

pub invariant_of-self : goal.invariant_of-self
invariant_of-self g c = (
  c.self.invariant.0,
  core_stops g.J.Naming.run g.V.Vault.tells (g.V.Vault.held c.self.inside.stores.vault) c.self.inside.stores.course c.reserve.new.self.course
      c.self.inside.contents c.self.invariant.1 _ _ c.args.worker c.in_err-reserve.ensures.stops,
)

pub invariant_of-self-in_err-reset_tree : goal.invariant_of-self-in_err-reset_tree
invariant_of-self-in_err-reset_tree g c = (
  c.self.invariant.0,
  later_stops g.J.Naming.run g.V.Vault.tells (g.V.Vault.held c.self.inside.stores.vault) c.self.inside.stores.course c.reserve.new.self.course c.self.inside.contents
      c.self.invariant.1 c.in_ok-reserve.ensures.machine c.in_ok-reserve.ensures.fault c.reserve.ensures.none c.reset_tree.new.stores.course _ _ c.args.worker
      c.in_err-reset_tree.ensures.stops,
)

pub invariant_of-self-2 : goal.invariant_of-self-2
invariant_of-self-2 g c =
    let run = g.J.Naming.run in
    let did = subst (λ s. Did run.plan s c.add.new.self.course c.args.worker (Kill c.args.line)) c.in_ok-reset_tree.ensures.course c.add.ensures.did in
    let may : can run.plan c.self.inside.stores.course.machine (Kill c.args.line) ≡ true =
    subst (λ (m : State). can run.plan m (Kill c.args.line) ≡ true) (sym (ap (λ s. s.stores.course.machine) c.self.view_is)) c.requires.can in (
      c.self.invariant.0,
      subst (λ v. IsCore run g.V.Vault.tells (g.V.Vault.held v) c.add.new.self.course c.reset_tree.new.contents) (sym c.add.ensures.vault)
          (later_did run g.V.Vault.tells _ c.self.inside.stores.course c.reserve.new.self.course c.self.inside.contents c.self.invariant.1
          c.in_ok-reserve.ensures.machine c.in_ok-reserve.ensures.fault c.reserve.ensures.none c.add.new.self.course _ _ c.args.worker (Kill c.args.line) did
          c.in_ok-reset_tree.ensures.fits
          (λ tells. left_so run c.self.inside.stores.course.machine c.reserve.ensures.is c.reserve.ensures.kept (Kill c.args.line) _ _ may refl
          (c.reset_tree.ensures.held tells ∙ ap (λ v. g.V.Vault.held v) c.reserve.ensures.vault))),
    )

pub returns-in_err-reserve-clause-crash : goal.returns-in_err-reserve-clause-crash
returns-in_err-reserve-clause-crash g c = λ t.
    let good = NoPut in
    let none = entries_begin g.V.Vault.time g.V.Vault.left g.V.Vault.held good c.args.self.now.stores.vault c.self.inside.stores.vault c.reserve.new.self.vault (ap (λ x. x.stores.vault) c.self.view_is)
    (entries_stay g.V.Vault.time g.V.Vault.left g.V.Vault.held good c.self.inside.stores.vault c.reserve.new.self.vault c.reserve.ensures.vault (c.reserve.ensures.settled t)) in
    none

pub returns-in_err-reset_tree-clause-crash : goal.returns-in_err-reset_tree-clause-crash
returns-in_err-reset_tree-clause-crash g c = λ t.
    let good = NoPut in
    let none = entries_begin g.V.Vault.time g.V.Vault.left g.V.Vault.held good c.args.self.now.stores.vault c.self.inside.stores.vault c.reserve.new.self.vault (ap (λ x. x.stores.vault) c.self.view_is)
    (entries_stay g.V.Vault.time g.V.Vault.left g.V.Vault.held good c.self.inside.stores.vault c.reserve.new.self.vault c.reserve.ensures.vault (c.reserve.ensures.settled t)) in
    entries_go_on g.V.Vault.time g.V.Vault.left g.V.Vault.held good c.args.self.now.stores.vault c.reserve.new.self.vault c.reset_tree.new.stores.vault none (c.reset_tree.ensures.crash t)

pub returns-clause-crash : goal.returns-clause-crash
returns-clause-crash g c = λ t.
    let good = NoPut in
    let none = entries_begin g.V.Vault.time g.V.Vault.left g.V.Vault.held good c.args.self.now.stores.vault c.self.inside.stores.vault c.reserve.new.self.vault (ap (λ x. x.stores.vault) c.self.view_is)
    (entries_stay g.V.Vault.time g.V.Vault.left g.V.Vault.held good c.self.inside.stores.vault c.reserve.new.self.vault c.reserve.ensures.vault (c.reserve.ensures.settled t)) in
    entries_end g.V.Vault.time g.V.Vault.left g.V.Vault.held good c.args.self.now.stores.vault c.reset_tree.new.stores.vault c.add.new.self.vault c.add.ensures.vault
    (entries_go_on g.V.Vault.time g.V.Vault.left g.V.Vault.held good c.args.self.now.stores.vault c.reserve.new.self.vault c.reset_tree.new.stores.vault none (c.reset_tree.ensures.crash t))
