use Rattle.std.proofs.Common.{◌≡◌, ℕ, true, List, Some, IsTrue, sym, ap, subst, ◌∙◌}
use Rattle.apx_history.specs.declared.Event.TheVariants.{Save}
use Rattle.apx_history.specs.State.{State, oper, slot}
use Rattle.apx_history.specs.Enabled.{can as enabled}
use Rattle.apx_history.specs.Effects.{next}
use Rattle.apx_history.specs.Conditions.{CanSave}
use Rattle.apx_device.specs.Vault.{Entry, entry_at, with_entry}
use Rattle.apx_held.specs.Holding.{holding, IsSpelled}
use Rattle.apx_held.specs.Fits.{Fits, IsSaved, save_id}
use Rattle.apx_held.proofs.Fitting.{held_of, spelled_saved}
use Rattle.apx_course.specs.declared.faults.CoreFault.TheVariants.{Memory}
use Rattle.apx_core.specs.Core.{telling, IsCore}
use Rattle.apx_core.proofs.Checkpoints.{Changes, put_so}
use Rattle.apx_core.proofs.Going.{later_stops, core_stops, core_stays, core_answers}
use Rattle.apx_core.proofs.Changes.{saved_fits}
use Rattle.apx_stores.specs.Crashes.{IsPut}
use Rattle.apx_stores.proofs.Crashing.{entries_stay, entries_begin, entries_end, entries_go_on, entries_weaker}
use Rattle.apx_core.specs.Crashes.{IsOfRun}
use Rattle.apx_core.proofs.Crashing.{save_stands}
use Rattle.apx_core.proofs.cores.Core.save.Goals as goal

pub spelled-requires-clause-there : goal.spelled-requires-clause-there
spelled-requires-clause-there g c =
    let run = g.J.Naming.run in
    let m = c.self.inside.stores.course.machine in
    let can : CanSave run.plan m c.args.id.op c.args.id.part c.args.window = c.reserve.ensures.enabled in
    held_of run.job (telling run g.V.Vault.tells) _ m c.self.inside.contents c.args.id.op c.args.id.part (c.self.invariant.1.fits c.reserve.ensures.none) can.part

pub spelled-requires-clause-home : goal.spelled-requires-clause-home
spelled-requires-clause-home g c =
    let run = g.J.Naming.run in
    let m = c.self.inside.stores.course.machine in
    let can : CanSave run.plan m c.args.id.op c.args.id.part c.args.window = c.reserve.ensures.enabled in
    ((c.self.invariant.1.fits c.reserve.ensures.none).each c.args.id.op c.args.id.part can.part).home can.closed

pub invariant_of-self : goal.invariant_of-self
invariant_of-self g c = (
  c.self.invariant.0,
  core_stops g.J.Naming.run g.V.Vault.tells (g.V.Vault.held c.self.inside.stores.vault) c.self.inside.stores.course c.reserve.new.self.course
      c.self.inside.contents c.self.invariant.1 _ _ c.args.worker c.in_err-reserve.ensures.stops,
)

pub invariant_of-self-in_err-keep-in-Ok : goal.invariant_of-self-in_err-keep-in-Ok
invariant_of-self-in_err-keep-in-Ok g c = (
  c.self.invariant.0,
  later_stops g.J.Naming.run g.V.Vault.tells (g.V.Vault.held c.self.inside.stores.vault) c.self.inside.stores.course c.reserve.new.self.course c.self.inside.contents
      c.self.invariant.1 c.in_ok-reserve.ensures.machine c.in_ok-reserve.ensures.fault c.reserve.ensures.none c.keep.new.self.course _ _ c.args.worker
      c.in_err-keep-in-Ok.ensures.stops,
)

pub invariant_of-self-in-Ok : goal.invariant_of-self-in-Ok
invariant_of-self-in-Ok g c =
    let run = g.J.Naming.run in
    let vt = g.V.Vault.tells in
    let tells = telling run vt in
    let old = c.self.inside.stores in
    let m = old.course.machine in
    let hs = c.self.inside.contents in
    let o = c.args.id.op in
    let i = c.args.id.part in
    let w = c.args.window in
    let u = c.args.worker in
    let entries = g.V.Vault.held old.vault in
    let entries' = g.V.Vault.held c.keep.new.self.vault in
    let bytes = c.deref.result.now in
    let is : IsSpelled (holding hs o i) bytes = subst (λ (b : List ℕ). IsSpelled (holding hs o i) b) (sym c.deref.ensures.value) c.in-Ok.ensures.spelled in
    let can : CanSave run.plan m o i w = c.reserve.ensures.enabled in
    let fits = c.self.invariant.1.fits c.reserve.ensures.none in
    let may : enabled run.plan m (Save o i w) ≡ true =
    subst (λ (n : State). enabled run.plan n (Save o i w) ≡ true) (sym (ap (λ s. s.stores.course.machine) c.self.view_is)) c.requires in
    let part = fits.each o i can.part in
    let right : IsSaved run.job run.told o (oper m o).boundary i w (Some bytes) =
    spelled_saved run.job run.told o (oper m o).boundary i w (slot m o i).at bytes (holding hs o i).state can.now (part.home can.closed) part.state is in
    let machine = c.in_ok-reserve.ensures.machine in
    let mid = c.keep.new.self.course in
    let new = c.try_add.new.self in
    let stays = core_stays run vt entries old.course mid hs c.self.invariant.1 (ap (λ s. s.machine) c.in_ok-keep-in-Ok.ensures.course ∙ machine)
    (ap (λ s. s.fault) c.in_ok-keep-in-Ok.ensures.course ∙ c.in_ok-reserve.ensures.fault) c.reserve.ensures.none in
    let put_is : IsTrue vt → entries' ≡ with_entry entries (save_id o (oper m o).boundary i w) bytes = λ t. c.in_ok-keep-in-Ok.ensures.held t
    ∙ (ap (λ (es : List Entry). with_entry es c.save_id-save.result bytes) (ap (λ v. g.V.Vault.held v) c.reserve.ensures.vault)
    ∙ (ap (λ d. with_entry entries d bytes) c.save_id-save.ensures ∙ ap (λ (n : State). with_entry entries (save_id o (oper n o).boundary i w) bytes) machine)) in
    let there : mid.machine ≡ m = ap (λ s. s.machine) c.in_ok-keep-in-Ok.ensures.course ∙ machine in (
      c.self.invariant.0,
      subst (λ v. IsCore run vt (g.V.Vault.held v) new.course hs) (sym c.try_add.ensures.vault)
          (core_answers run vt entries mid new.course hs stays entries' hs u (Save o i w) c.try_add.result
          c.try_add.ensures.did c.try_add.ensures.stops c.try_add.ensures.did
          (λ _ _. subst (λ (n : State). Fits run.job tells (entry_at entries') (next run.plan n u (Save o i w)) hs) (sym there)
          (saved_fits run.job tells m hs entries entries' o i w bytes run.plan can put_is is fits))
          (λ _ tells. subst (λ (n : State). Changes run n (Save o i w) entries entries') (sym there)
          (put_so run m c.reserve.ensures.is c.reserve.ensures.kept o i w entries entries' bytes may (put_is tells) right))),
    )

pub invariant_of-self-in-Err : goal.invariant_of-self-in-Err
invariant_of-self-in-Err g c = (
  c.self.invariant.0,
  later_stops g.J.Naming.run g.V.Vault.tells (g.V.Vault.held c.self.inside.stores.vault) c.self.inside.stores.course c.reserve.new.self.course c.self.inside.contents
      c.self.invariant.1 c.in_ok-reserve.ensures.machine c.in_ok-reserve.ensures.fault c.reserve.ensures.none c.stop.new.self.course _ _ c.args.worker
      (Memory, c.stop.ensures.stops),
)

pub returns-in_err-reserve-clause-crash : goal.returns-in_err-reserve-clause-crash
returns-in_err-reserve-clause-crash g c = λ t.
    let good = IsOfRun g.J.Naming.run.job g.J.Naming.run.told in
    let none = entries_begin g.V.Vault.time g.V.Vault.left g.V.Vault.held good c.args.self.now.stores.vault c.self.inside.stores.vault c.reserve.new.self.vault (ap (λ x. x.stores.vault) c.self.view_is)
    (entries_stay g.V.Vault.time g.V.Vault.left g.V.Vault.held good c.self.inside.stores.vault c.reserve.new.self.vault c.reserve.ensures.vault (c.reserve.ensures.settled t)) in
    none

pub returns-in_err-keep-in-Ok-clause-crash : goal.returns-in_err-keep-in-Ok-clause-crash
returns-in_err-keep-in-Ok-clause-crash g c = λ t.
    let good = IsOfRun g.J.Naming.run.job g.J.Naming.run.told in
    let none = entries_begin g.V.Vault.time g.V.Vault.left g.V.Vault.held good c.args.self.now.stores.vault c.self.inside.stores.vault c.reserve.new.self.vault (ap (λ x. x.stores.vault) c.self.view_is)
    (entries_stay g.V.Vault.time g.V.Vault.left g.V.Vault.held good c.self.inside.stores.vault c.reserve.new.self.vault c.reserve.ensures.vault (c.reserve.ensures.settled t)) in
    let run = g.J.Naming.run in
    let m = c.self.inside.stores.course.machine in
    let hs = c.self.inside.contents in
    let o = c.args.id.op in
    let i = c.args.id.part in
    let w = c.args.window in
    let bytes = c.deref.result.now in
    let may : enabled run.plan m (Save o i w) ≡ true =
    subst (λ (n : State). enabled run.plan n (Save o i w) ≡ true) (sym (ap (λ x. x.stores.course.machine) c.self.view_is)) c.requires in
    let is : IsSpelled (holding hs o i) bytes = subst (λ (b : List ℕ). IsSpelled (holding hs o i) b) (sym c.deref.ensures.value) c.in-Ok.ensures.spelled in
    let can : CanSave run.plan m o i w = c.reserve.ensures.enabled in
    let part = (c.self.invariant.1.fits c.reserve.ensures.none).each o i can.part in
    let right : IsSaved run.job run.told o (oper m o).boundary i w (Some bytes) =
    spelled_saved run.job run.told o (oper m o).boundary i w (slot m o i).at bytes (holding hs o i).state can.now (part.home can.closed) part.state is in
    let id : c.save_id-save.result ≡ save_id o (oper m o).boundary i w = c.save_id-save.ensures ∙ ap (λ (n : State). save_id o (oper n o).boundary i w) c.in_ok-reserve.ensures.machine in
    let put = entries_weaker g.V.Vault.time g.V.Vault.left g.V.Vault.held good (IsPut c.save_id-save.result bytes)
    (λ other found x. save_stands run c.self.invariant.1.planned m c.reserve.ensures.is c.reserve.ensures.kept c.args.worker o i w bytes may right other found (x.0 ∙ id, x.1))
    c.reserve.new.self.vault c.keep.new.self.vault (c.keep.ensures.crash t) in
    entries_go_on g.V.Vault.time g.V.Vault.left g.V.Vault.held good c.args.self.now.stores.vault c.reserve.new.self.vault c.keep.new.self.vault none put

pub returns-in_ok-keep-in-Ok-clause-crash : goal.returns-in_ok-keep-in-Ok-clause-crash
returns-in_ok-keep-in-Ok-clause-crash g c = λ t.
    let good = IsOfRun g.J.Naming.run.job g.J.Naming.run.told in
    let none = entries_begin g.V.Vault.time g.V.Vault.left g.V.Vault.held good c.args.self.now.stores.vault c.self.inside.stores.vault c.reserve.new.self.vault (ap (λ x. x.stores.vault) c.self.view_is)
    (entries_stay g.V.Vault.time g.V.Vault.left g.V.Vault.held good c.self.inside.stores.vault c.reserve.new.self.vault c.reserve.ensures.vault (c.reserve.ensures.settled t)) in
    let run = g.J.Naming.run in
    let m = c.self.inside.stores.course.machine in
    let hs = c.self.inside.contents in
    let o = c.args.id.op in
    let i = c.args.id.part in
    let w = c.args.window in
    let bytes = c.deref.result.now in
    let may : enabled run.plan m (Save o i w) ≡ true =
    subst (λ (n : State). enabled run.plan n (Save o i w) ≡ true) (sym (ap (λ x. x.stores.course.machine) c.self.view_is)) c.requires in
    let is : IsSpelled (holding hs o i) bytes = subst (λ (b : List ℕ). IsSpelled (holding hs o i) b) (sym c.deref.ensures.value) c.in-Ok.ensures.spelled in
    let can : CanSave run.plan m o i w = c.reserve.ensures.enabled in
    let part = (c.self.invariant.1.fits c.reserve.ensures.none).each o i can.part in
    let right : IsSaved run.job run.told o (oper m o).boundary i w (Some bytes) =
    spelled_saved run.job run.told o (oper m o).boundary i w (slot m o i).at bytes (holding hs o i).state can.now (part.home can.closed) part.state is in
    let id : c.save_id-save.result ≡ save_id o (oper m o).boundary i w = c.save_id-save.ensures ∙ ap (λ (n : State). save_id o (oper n o).boundary i w) c.in_ok-reserve.ensures.machine in
    let put = entries_weaker g.V.Vault.time g.V.Vault.left g.V.Vault.held good (IsPut c.save_id-save.result bytes)
    (λ other found x. save_stands run c.self.invariant.1.planned m c.reserve.ensures.is c.reserve.ensures.kept c.args.worker o i w bytes may right other found (x.0 ∙ id, x.1))
    c.reserve.new.self.vault c.keep.new.self.vault (c.keep.ensures.crash t) in
    entries_end g.V.Vault.time g.V.Vault.left g.V.Vault.held good c.args.self.now.stores.vault c.keep.new.self.vault c.try_add.new.self.vault c.try_add.ensures.vault
    (entries_go_on g.V.Vault.time g.V.Vault.left g.V.Vault.held good c.args.self.now.stores.vault c.reserve.new.self.vault c.keep.new.self.vault none put)

pub returns-in-Err-clause-crash : goal.returns-in-Err-clause-crash
returns-in-Err-clause-crash g c = λ t.
    let good = IsOfRun g.J.Naming.run.job g.J.Naming.run.told in
    let none = entries_begin g.V.Vault.time g.V.Vault.left g.V.Vault.held good c.args.self.now.stores.vault c.self.inside.stores.vault c.reserve.new.self.vault (ap (λ x. x.stores.vault) c.self.view_is)
    (entries_stay g.V.Vault.time g.V.Vault.left g.V.Vault.held good c.self.inside.stores.vault c.reserve.new.self.vault c.reserve.ensures.vault (c.reserve.ensures.settled t)) in
    entries_end g.V.Vault.time g.V.Vault.left g.V.Vault.held good c.args.self.now.stores.vault c.reserve.new.self.vault c.stop.new.self.vault c.stop.ensures.vault none
