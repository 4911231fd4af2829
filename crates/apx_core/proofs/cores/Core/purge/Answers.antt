use Rattle.std.proofs.Common.{◌≡◌, true, List, refl, sym, ap, subst, ◌∙◌}
use Rattle.apx_history.specs.declared.Event.TheVariants.{Purge}
use Rattle.apx_history.specs.State.{State}
use Rattle.apx_history.specs.Effects.{next}
use Rattle.apx_history.specs.Enabled.{can}
use Rattle.apx_device.specs.Vault.{entry_at}
use Rattle.apx_held.specs.Holding.{Holding, holding, put_holding, dropped}
use Rattle.apx_held.specs.Fits.{Fits}
use Rattle.apx_core.specs.Core.{telling, IsCore}
use Rattle.apx_core.proofs.Checkpoints.{left_so}
use Rattle.apx_core.proofs.Going.{core_stops, later_did}
use Rattle.apx_core.proofs.Changes.{purge_asks, purged_fits}
use Rattle.apx_core.proofs.cores.Core.purge.Goals as goal

pub purge-requires-clause-there : goal.purge-requires-clause-there
purge-requires-clause-there g c =
    let run = g.J.Naming.run in
    (purge_asks run.job (telling run g.V.Vault.tells) c.self.inside.stores.course.machine c.self.inside.contents _ c.args.id.op c.args.id.part c.args.to run.plan
    c.self.invariant.1.planned c.reserve.ensures.enabled (c.self.invariant.1.fits c.reserve.ensures.none)).0

pub purge-requires-clause-floor : goal.purge-requires-clause-floor
purge-requires-clause-floor g c =
    let run = g.J.Naming.run in
    (purge_asks run.job (telling run g.V.Vault.tells) c.self.inside.stores.course.machine c.self.inside.contents _ c.args.id.op c.args.id.part c.args.to run.plan
    c.self.invariant.1.planned c.reserve.ensures.enabled (c.self.invariant.1.fits c.reserve.ensures.none)).1

pub purge-requires-clause-top : goal.purge-requires-clause-top
purge-requires-clause-top g c =
    let run = g.J.Naming.run in
    (purge_asks run.job (telling run g.V.Vault.tells) c.self.inside.stores.course.machine c.self.inside.contents _ c.args.id.op c.args.id.part c.args.to run.plan
    c.self.invariant.1.planned c.reserve.ensures.enabled (c.self.invariant.1.fits c.reserve.ensures.none)).2

pub invariant_of-self : goal.invariant_of-self
invariant_of-self g c = (
  c.self.invariant.0,
  core_stops g.J.Naming.run g.V.Vault.tells (g.V.Vault.held c.self.inside.stores.vault) c.self.inside.stores.course c.reserve.new.self.course
      c.self.inside.contents c.self.invariant.1 _ _ c.args.worker c.in_err-reserve.ensures.stops,
)

pub invariant_of-self-2 : goal.invariant_of-self-2
invariant_of-self-2 g c =
    let run = g.J.Naming.run in
    let vt = g.V.Vault.tells in
    let hs = c.self.inside.contents in
    let o = c.args.id.op in
    let i = c.args.id.part in
    let entries = g.V.Vault.held c.self.inside.stores.vault in
    let machine = c.in_ok-reserve.ensures.machine in
    let hs' = put_holding hs o i (dropped c.args.to (holding hs o i)) in
    let may : can run.plan c.self.inside.stores.course.machine (Purge o i c.args.to) ≡ true =
    subst (λ (m : State). can run.plan m (Purge o i c.args.to) ≡ true) (sym (ap (λ s. s.stores.course.machine) c.self.view_is)) c.requires in
    let fits : Fits run.job (telling run vt) (entry_at entries) (next run.plan c.reserve.new.self.course.machine c.args.worker (Purge o i c.args.to)) hs' =
    subst (λ (m : State). Fits run.job (telling run vt) (entry_at entries) (next run.plan m c.args.worker (Purge o i c.args.to)) hs') (sym machine)
    (purged_fits run.job (telling run vt) c.self.inside.stores.course.machine hs (entry_at entries) o i c.args.to run.plan c.reserve.ensures.enabled
    (c.self.invariant.1.fits c.reserve.ensures.none)) in (
      c.self.invariant.0,
      subst (λ v. IsCore run vt (g.V.Vault.held v) c.add.new.self.course c.purge.new.self) (sym (c.add.ensures.vault ∙ c.reserve.ensures.vault))
          (subst (λ (h : List (List Holding)). IsCore run vt entries c.add.new.self.course h) (sym c.purge.ensures)
          (later_did run vt entries c.self.inside.stores.course c.reserve.new.self.course hs c.self.invariant.1 machine c.in_ok-reserve.ensures.fault c.reserve.ensures.none
          c.add.new.self.course entries hs' c.args.worker (Purge o i c.args.to) c.add.ensures.did fits
          (λ tells. left_so run c.self.inside.stores.course.machine c.reserve.ensures.is c.reserve.ensures.kept (Purge o i c.args.to) _ _ may refl refl))),
    )
