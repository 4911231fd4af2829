use Rattle.std.proofs.Common.{◌≡◌, ℕ, true, List, refl, sym, ap, subst, ◌∙◌}
use Rattle.apx_history.specs.declared.Event.TheVariants.{Finish}
use Rattle.apx_history.specs.State.{State}
use Rattle.apx_history.specs.Effects.{next}
use Rattle.apx_history.specs.Enabled.{can}
use Rattle.apx_history.specs.Conditions.{CanFinish}
use Rattle.apx_device.specs.Vault.{entry_at}
use Rattle.apx_held.specs.Holding.{Holding, holding, put_holding, brought}
use Rattle.apx_held.specs.Fits.{Fits}
use Rattle.apx_held.proofs.Fitting.{held_of}
use Rattle.apx_core.specs.Core.{telling, IsCore}
use Rattle.apx_core.proofs.Checkpoints.{left_so}
use Rattle.apx_core.proofs.Going.{core_stops, later_stops, later_did}
use Rattle.apx_core.proofs.Bearing.{numbered, work_at}
use Rattle.apx_core.proofs.Bringing.{finish_next, finish_fits}
use Rattle.apx_core.proofs.Unlent.{unbrought_caused}
use Rattle.apx_core.proofs.cores.Core.finish.Goals as goal

pub bring-requires-clause-there : goal.bring-requires-clause-there
bring-requires-clause-there g c =
    let run = g.J.Naming.run in
    let m = c.self.inside.stores.course.machine in
    let can : CanFinish run.plan m c.id-id.result.op c.id-id.result.part c.window.result = c.reserve.ensures.enabled in
    held_of run.job (telling run g.V.Vault.tells) _ m c.self.inside.contents c.id-id.result.op c.id-id.result.part (c.self.invariant.1.fits c.reserve.ensures.none) can.part

pub bring-requires-clause-small : goal.bring-requires-clause-small
bring-requires-clause-small g c = c.requires.work.small

pub bring-requires-clause-next : goal.bring-requires-clause-next
bring-requires-clause-next g c =
    let run = g.J.Naming.run in
    finish_next run (telling run g.V.Vault.tells) _ c.self.inside.stores.course.machine c.self.inside.contents
    (numbered c.id-id.result.op c.id-id.result.part c.window.result c.args.claim) c.args.done c.self.invariant.1.planned c.known.ensures.graph c.reserve.ensures.kept
    (c.self.invariant.1.fits c.reserve.ensures.none) c.reserve.ensures.enabled
    (work_at run c.args.claim c.args.done _ _ _ c.id-id.ensures.op c.id-id.ensures.part c.window.ensures c.requires.work)

pub invariant_of-self : goal.invariant_of-self
invariant_of-self g c = (
  c.self.invariant.0,
  core_stops g.J.Naming.run g.V.Vault.tells (g.V.Vault.held c.self.inside.stores.vault) c.self.inside.stores.course c.reserve.new.self.course
      c.self.inside.contents c.self.invariant.1 _ _ c.worker-worker.result c.in_err-reserve.ensures.stops,
)

pub invariant_of-self-in-Ok : goal.invariant_of-self-in-Ok
invariant_of-self-in-Ok g c =
    let run = g.J.Naming.run in
    let vt = g.V.Vault.tells in
    let tells = telling run vt in
    let hs = c.self.inside.contents in
    let claim = numbered c.id-id.result.op c.id-id.result.part c.window.result c.args.claim in
    let u = c.worker-worker.result in
    let entries = g.V.Vault.held c.self.inside.stores.vault in
    let machine = c.in_ok-reserve.ensures.machine in
    let m = c.self.inside.stores.course.machine in
    let asked : can run.plan m (Finish c.args.claim.op c.args.claim.part c.args.claim.window) ≡ true =
    subst (λ (n : State). can run.plan n (Finish c.args.claim.op c.args.claim.part c.args.claim.window) ≡ true) (sym (ap (λ s. s.stores.course.machine) c.self.view_is)) c.requires.can in
    let may : can run.plan m (Finish claim.op claim.part claim.window) ≡ true =
    subst (λ (o : ℕ). can run.plan m (Finish o claim.part claim.window) ≡ true) (sym c.id-id.ensures.op)
    (subst (λ (i : ℕ). can run.plan m (Finish c.args.claim.op i claim.window) ≡ true) (sym c.id-id.ensures.part)
    (subst (λ (w : ℕ). can run.plan m (Finish c.args.claim.op c.args.claim.part w) ≡ true) (sym c.window.ensures) asked)) in
    let hs' = put_holding hs claim.op claim.part (brought c.args.done.state c.args.done.blocks.items (holding hs claim.op claim.part)) in
    let fits : Fits run.job tells (entry_at entries) (next run.plan c.reserve.new.self.course.machine u (Finish claim.op claim.part claim.window)) hs' =
    subst (λ (m : State). Fits run.job tells (entry_at entries) (next run.plan m u (Finish claim.op claim.part claim.window)) hs') (sym machine)
    (finish_fits run tells (entry_at entries) c.self.inside.stores.course.machine hs claim c.args.done c.self.invariant.1.planned c.known.ensures.graph
    c.reserve.ensures.kept (c.self.invariant.1.fits c.reserve.ensures.none) c.reserve.ensures.enabled
    (work_at run c.args.claim c.args.done _ _ _ c.id-id.ensures.op c.id-id.ensures.part c.window.ensures c.requires.work) c.reserve.ensures.is (λ t. t)) in (
      c.self.invariant.0,
      subst (λ v. IsCore run vt (g.V.Vault.held v) c.add.new.self.course c.bring.new.contents) (sym (c.add.ensures.vault ∙ c.reserve.ensures.vault))
          (subst (λ (h : List (List Holding)). IsCore run vt entries c.add.new.self.course h) (sym c.in-Ok.ensures.brought)
          (later_did run vt entries c.self.inside.stores.course c.reserve.new.self.course hs c.self.invariant.1 machine c.in_ok-reserve.ensures.fault c.reserve.ensures.none
          c.add.new.self.course entries hs' u (Finish claim.op claim.part claim.window) c.add.ensures.did fits
          (λ tells. left_so run m c.reserve.ensures.is c.reserve.ensures.kept (Finish claim.op claim.part claim.window) _ _ may refl refl))),
    )

pub invariant_of-self-in-Err : goal.invariant_of-self-in-Err
invariant_of-self-in-Err g c = (
  c.self.invariant.0,
  later_stops g.J.Naming.run g.V.Vault.tells (g.V.Vault.held c.self.inside.stores.vault) c.self.inside.stores.course c.reserve.new.self.course c.self.inside.contents
      c.self.invariant.1 c.in_ok-reserve.ensures.machine c.in_ok-reserve.ensures.fault c.reserve.ensures.none c.stop.new.self.course _ _ c.worker-worker.result
      (c.in-Err.fault, c.stop.ensures.stops),
)

pub stop-requires-clause-cause : goal.stop-requires-clause-cause
stop-requires-clause-cause g c = unbrought_caused g.J.Naming.run.job g.J.Naming.run.told g.V.Vault.tells g.P.S.Spool.tells _ _ c.in-Err.fault c.in-Err.ensures.cause
