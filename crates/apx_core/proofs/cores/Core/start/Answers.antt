use Rattle.std.proofs.Common.{◌≡◌, List, IsSome, refl, sym, ap, subst, ◌∙◌, true, false, arith}
use Rattle.apx_history.specs.declared.Event.TheVariants.{Start}
use Rattle.apx_history.specs.State.{State}
use Rattle.apx_history.specs.Effects.{next}
use Rattle.apx_history.specs.Enabled.{can}
use Rattle.apx_history.specs.Conditions.{CanStart}
use Rattle.apx_device.specs.Vault.{entry_at}
use Rattle.apx_held.specs.Holding.{Holding, holding, put_holding, taken, IsHeld}
use Rattle.apx_held.specs.Fits.{Fits}
use Rattle.apx_held.proofs.Fitting.{held_of, fits_start}
use Rattle.apx_core.specs.Core.{telling, IsCore}
use Rattle.apx_core.proofs.Checkpoints.{left_so}
use Rattle.apx_core.proofs.Going.{core_stops, later_stops, later_did}
use Rattle.apx_core.proofs.Claiming.{op_there, left_lends, right_lends, claim_is}
use Rattle.apx_core.proofs.Unlent.{unlent_caused}
use Rattle.apx_core.proofs.cores.Core.start.Goals as goal

pub lend_ports-requires-clause-op : goal.lend_ports-requires-clause-op
lend_ports-requires-clause-op g c =
    op_there g.J.Naming.run (telling g.J.Naming.run g.V.Vault.tells) false _ _ _ _ _ _ c.self.invariant.1.planned c.reserve.ensures.is c.reserve.ensures.small
    c.reserve.ensures.kept c.known.ensures.graph (c.self.invariant.1.fits c.reserve.ensures.none) c.reserve.ensures.enabled

pub lend_ports-requires-clause-left : goal.lend_ports-requires-clause-left
lend_ports-requires-clause-left g c =
    left_lends g.J.Naming.run (telling g.J.Naming.run g.V.Vault.tells) false _ _ _ _ _ _ c.self.invariant.1.planned c.reserve.ensures.is c.reserve.ensures.small
    c.reserve.ensures.kept c.known.ensures.graph (c.self.invariant.1.fits c.reserve.ensures.none) c.reserve.ensures.enabled

pub lend_ports-requires-clause-right : goal.lend_ports-requires-clause-right
lend_ports-requires-clause-right g c =
    right_lends g.J.Naming.run (telling g.J.Naming.run g.V.Vault.tells) false _ _ _ _ _ _ c.self.invariant.1.planned c.reserve.ensures.is c.reserve.ensures.small
    c.reserve.ensures.kept c.known.ensures.graph (c.self.invariant.1.fits c.reserve.ensures.none) c.reserve.ensures.enabled

pub lend_ports-requires-clause-few : goal.lend_ports-requires-clause-few
lend_ports-requires-clause-few g c =
    let can : CanStart g.J.Naming.run.plan c.self.inside.stores.course.machine c.args.id.op c.args.id.part c.args.window = c.reserve.ensures.enabled in
    let a = can.windows in
    let b = c.reserve.ensures.small.windows in
    omega (arith, a, b)

pub take-requires-clause-there : goal.take-requires-clause-there
take-requires-clause-there g c =
    let m = c.self.inside.stores.course.machine in
    let can : CanStart g.J.Naming.run.plan m c.args.id.op c.args.id.part c.args.window = c.reserve.ensures.enabled in
    subst (λ (h : List (List Holding)). IsHeld h c.args.id.op c.args.id.part) (sym c.lend_ports.ensures.same)
    (held_of g.J.Naming.run.job (telling g.J.Naming.run g.V.Vault.tells) _ m c.self.inside.contents c.args.id.op c.args.id.part
    (c.self.invariant.1.fits c.reserve.ensures.none) can.part)

pub take-requires-clause-home : goal.take-requires-clause-home
take-requires-clause-home g c =
    let m = c.self.inside.stores.course.machine in
    let can : CanStart g.J.Naming.run.plan m c.args.id.op c.args.id.part c.args.window = c.reserve.ensures.enabled in
    subst (λ (h : List (List Holding)). IsSome (holding h c.args.id.op c.args.id.part).state) (sym c.lend_ports.ensures.same)
    (((c.self.invariant.1.fits c.reserve.ensures.none).each c.args.id.op c.args.id.part can.part).home can.closed)

pub invariant_of-self : goal.invariant_of-self
invariant_of-self g c = (
  c.self.invariant.0,
  core_stops g.J.Naming.run g.V.Vault.tells (g.V.Vault.held c.self.inside.stores.vault) c.self.inside.stores.course c.reserve.new.self.course
      c.self.inside.contents c.self.invariant.1 _ _ c.args.worker c.in_err-reserve.ensures.stops,
)

pub invariant_of-self-in-Ok : goal.invariant_of-self-in-Ok
invariant_of-self-in-Ok g c =
    let run = g.J.Naming.run in
    let vt = g.V.Vault.tells in
    let old = c.self.inside.stores in
    let hs = c.self.inside.contents in
    let o = c.args.id.op in
    let i = c.args.id.part in
    let e = Start o i c.args.window in
    let entries = g.V.Vault.held old.vault in
    let is : CanStart run.plan old.course.machine o i c.args.window = c.reserve.ensures.enabled in
    let may : can run.plan old.course.machine (Start o i c.args.window) ≡ true =
    subst (λ (m : State). can run.plan m (Start o i c.args.window) ≡ true) (sym (ap (λ s. s.stores.course.machine) c.self.view_is)) c.requires in
    let machine = c.in_ok-reserve.ensures.machine in
    let hs' = put_holding hs o i (taken (holding hs o i)) in
    let took = c.take.ensures.out ∙ ap (λ (h : List (List Holding)). put_holding h o i (taken (holding h o i))) c.lend_ports.ensures.same in
    let fits = subst (λ (m : State). Fits run.job (telling run vt) (entry_at entries) (next run.plan m c.args.worker e) hs') (sym machine)
    (fits_start run.job (telling run vt) (entry_at entries) old.course.machine hs o i (c.self.invariant.1.fits c.reserve.ensures.none) is.part c.args.window c.args.worker) in (
      c.self.invariant.0,
      subst (λ v. IsCore run vt (g.V.Vault.held v) c.add.new.self.course c.take.new.self) (sym (c.add.ensures.vault ∙ c.reserve.ensures.vault))
          (subst (λ (h : List (List Holding)). IsCore run vt entries c.add.new.self.course h) (sym took)
          (later_did run vt entries old.course c.reserve.new.self.course hs c.self.invariant.1 machine c.in_ok-reserve.ensures.fault c.reserve.ensures.none
          c.add.new.self.course entries hs' c.args.worker e c.add.ensures.did fits
          (λ tells. left_so run old.course.machine c.reserve.ensures.is c.reserve.ensures.kept e _ _ may refl refl))),
    )

pub invariant_of-result : goal.invariant_of-result
invariant_of-result g c =
    claim_is g.J.Naming.run (telling g.J.Naming.run g.V.Vault.tells) _ _ _ _ _ _ _ c.self.invariant.1.planned c.reserve.ensures.is c.reserve.ensures.small
    c.reserve.ensures.kept c.known.ensures.graph (c.self.invariant.1.fits c.reserve.ensures.none) c.reserve.ensures.enabled c.args.worker c.take.result _ _
    (ap (λ (h : List (List Holding)). (holding h c.args.id.op c.args.id.part).state) (sym c.lend_ports.ensures.same) ∙ c.take.ensures.state) c.take.ensures.small
    (λ t. (c.facts.ensures.tells t).1) (λ t. t) c.in-Ok.ensures.left c.in-Ok.ensures.right

pub returns-in-Ok-clause-claim : goal.returns-in-Ok-clause-claim
returns-in-Ok-clause-claim g c =
    claim_is g.J.Naming.run (telling g.J.Naming.run g.V.Vault.tells) _ _ _ _ _ _ _ c.self.invariant.1.planned c.reserve.ensures.is c.reserve.ensures.small
    c.reserve.ensures.kept c.known.ensures.graph (c.self.invariant.1.fits c.reserve.ensures.none) c.reserve.ensures.enabled c.args.worker c.take.result _ _
    (ap (λ (h : List (List Holding)). (holding h c.args.id.op c.args.id.part).state) (sym c.lend_ports.ensures.same) ∙ c.take.ensures.state) c.take.ensures.small
    (λ t. (c.facts.ensures.tells t).1) (λ t. t) c.in-Ok.ensures.left c.in-Ok.ensures.right

pub invariant_of-self-in-Err : goal.invariant_of-self-in-Err
invariant_of-self-in-Err g c = (
  c.self.invariant.0,
  later_stops g.J.Naming.run g.V.Vault.tells (g.V.Vault.held c.self.inside.stores.vault) c.self.inside.stores.course c.reserve.new.self.course c.self.inside.contents
      c.self.invariant.1 c.in_ok-reserve.ensures.machine c.in_ok-reserve.ensures.fault c.reserve.ensures.none c.stop.new.self.course _ _ c.args.worker
      (c.in-Err.fault, c.stop.ensures.stops),
)

pub stop-requires-clause-cause : goal.stop-requires-clause-cause
stop-requires-clause-cause g c = unlent_caused g.J.Naming.run.job g.J.Naming.run.told g.V.Vault.tells g.P.S.Spool.tells _ _ c.in-Err.fault c.in-Err.ensures.cause
