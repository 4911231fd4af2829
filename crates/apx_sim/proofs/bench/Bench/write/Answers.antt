use Rattle.std.proofs.Common.{◌≡◌, ℕ, ◌<◌, List, Option, Some, None, true, refl, sym, ap, subst, ◌∙◌, arith}
use Rattle.apx_history.specs.declared.Event.TheVariants.{Write}
use Rattle.apx_history.specs.State.{State, slot, open_window, open_worker}
use Rattle.apx_history.specs.Enabled.{can}
use Rattle.apx_history.specs.Journals.{bears}
use Rattle.apx_history.proofs.Legal.{can_facts, can_runs}
use Rattle.apx_core.specs.Claim.{IsOpenFor}
use Rattle.apx_hands.specs.Table.{put_cell}
use Rattle.apx_sim.specs.Hand.{Handed}
use Rattle.apx_sim.specs.Bench.{AreHands}
use Rattle.apx_sim.proofs.Opened.{place_few, held_for, held_some, held_fits, also_for, open_for, did_as, stops_as, write_of, may_as, err_any}
use Rattle.apx_sim.proofs.Benches.{hands_stopped, hands_write}
use Rattle.apx_stores.proofs.Crashing.{rows_stay}
use Rattle.apx_stores.specs.Crashes.{RowsFollow}
use Rattle.apx_sim.proofs.bench.Bench.write.Goals as goal

pub taken-hand-requires-clause-op : goal.taken-hand-requires-clause-op
taken-hand-requires-clause-op g c =
    let plan = g.J.Naming.run.plan in
    let m = c.self.inside.core.stores.course.machine in
    let w = c.args.window in
    let same_m = ap (λ k. k.stores.course.machine) c.self.view_is in
    let may : can plan m (Write w) ≡ true = may_as plan c.args.self.now.stores.course.machine m (Write w) (Write w) same_m refl c.requires.can in
    subst (λ (k : ℕ). k < 16) (sym c.sink-sink.ensures) (place_few plan m c.facts.ensures.small c.facts.ensures.kept plan.sink 0 (can_facts plan m (Write w) may).part).0

pub taken-hand-requires-clause-held : goal.taken-hand-requires-clause-held
taken-hand-requires-clause-held g c =
    let plan = g.J.Naming.run.plan in
    let m = c.self.inside.core.stores.course.machine in
    let hands = c.self.inside.hands in
    let o = c.sink-sink.result in
    let w = c.args.window in
    let same_m = ap (λ k. k.stores.course.machine) c.self.view_is in
    let may : can plan m (Write w) ≡ true = may_as plan c.args.self.now.stores.course.machine m (Write w) (Write w) same_m refl c.requires.can in
    let opened : open_window (slot m o 0).opened ≡ Some w = subst (λ (k : ℕ). open_window (slot m k 0).opened ≡ Some w) (sym c.sink-sink.ensures) (can_facts plan m (Write w) may).opened in
    let bears_sink : bears (open_worker (slot m plan.sink 0).opened) 0 ≡ true = subst (λ (k : State). bears (open_worker (slot k plan.sink 0).opened) 0 ≡ true) (sym same_m) c.requires.bears in
    let bears_it : bears (open_worker (slot m o 0).opened) 0 ≡ true = subst (λ (k : ℕ). bears (open_worker (slot m k 0).opened) 0 ≡ true) (sym c.sink-sink.ensures) bears_sink in
    let held = held_for m hands o 0 w (c.self.invariant (can_runs plan m (Write w) may)) opened bears_it in
    held_some m hands o 0 w held

pub write-requires-clause-can : goal.write-requires-clause-can
write-requires-clause-can g c =
    let plan = g.J.Naming.run.plan in
    let m = c.self.inside.core.stores.course.machine in
    let hands = c.self.inside.hands in
    let o = c.sink-sink.result in
    let w = c.args.window in
    let same_m = ap (λ k. k.stores.course.machine) c.self.view_is in
    let may : can plan m (Write w) ≡ true = may_as plan c.args.self.now.stores.course.machine m (Write w) (Write w) same_m refl c.requires.can in
    let opened : open_window (slot m o 0).opened ≡ Some w = subst (λ (k : ℕ). open_window (slot m k 0).opened ≡ Some w) (sym c.sink-sink.ensures) (can_facts plan m (Write w) may).opened in
    let bears_sink : bears (open_worker (slot m plan.sink 0).opened) 0 ≡ true = subst (λ (k : State). bears (open_worker (slot k plan.sink 0).opened) 0 ≡ true) (sym same_m) c.requires.bears in
    let bears_it : bears (open_worker (slot m o 0).opened) 0 ≡ true = subst (λ (k : ℕ). bears (open_worker (slot m k 0).opened) 0 ≡ true) (sym c.sink-sink.ensures) bears_sink in
    let held = held_for m hands o 0 w (c.self.invariant (can_runs plan m (Write w) may)) opened bears_it in
    let claim = c.in_ok-claim.claim in
    let fits = also_for o 0 w 0 c.taken-hand.result claim None (held_fits m hands o 0 w held c.taken-hand.result c.taken-hand.ensures.out) c.in_ok-claim.ensures.claim in
    let it : Handed = record { claim = claim; done = None } in
    may_as plan m c.work.new.core.stores.course.machine (Write w) (Write claim.window)
    (ap (λ k. k.stores.course.machine) c.in_ok-claim.ensures.core) (write_of o 0 w 0 it fits) may

pub write-requires-clause-opened : goal.write-requires-clause-opened
write-requires-clause-opened g c =
    let plan = g.J.Naming.run.plan in
    let m = c.self.inside.core.stores.course.machine in
    let hands = c.self.inside.hands in
    let o = c.sink-sink.result in
    let w = c.args.window in
    let same_m = ap (λ k. k.stores.course.machine) c.self.view_is in
    let may : can plan m (Write w) ≡ true = may_as plan c.args.self.now.stores.course.machine m (Write w) (Write w) same_m refl c.requires.can in
    let opened : open_window (slot m o 0).opened ≡ Some w = subst (λ (k : ℕ). open_window (slot m k 0).opened ≡ Some w) (sym c.sink-sink.ensures) (can_facts plan m (Write w) may).opened in
    let bears_sink : bears (open_worker (slot m plan.sink 0).opened) 0 ≡ true = subst (λ (k : State). bears (open_worker (slot k plan.sink 0).opened) 0 ≡ true) (sym same_m) c.requires.bears in
    let bears_it : bears (open_worker (slot m o 0).opened) 0 ≡ true = subst (λ (k : ℕ). bears (open_worker (slot m k 0).opened) 0 ≡ true) (sym c.sink-sink.ensures) bears_sink in
    let held = held_for m hands o 0 w (c.self.invariant (can_runs plan m (Write w) may)) opened bears_it in
    let claim = c.in_ok-claim.claim in
    let fits = also_for o 0 w 0 c.taken-hand.result claim None (held_fits m hands o 0 w held c.taken-hand.result c.taken-hand.ensures.out) c.in_ok-claim.ensures.claim in
    let it : Handed = record { claim = claim; done = None } in
    subst (λ (k : State). IsOpenFor k claim) (sym (ap (λ k. k.stores.course.machine) c.in_ok-claim.ensures.core)) (open_for m o 0 w 0 it fits held.opened)

pub write-requires-clause-sink : goal.write-requires-clause-sink
write-requires-clause-sink g c =
    let plan = g.J.Naming.run.plan in
    let m = c.self.inside.core.stores.course.machine in
    let hands = c.self.inside.hands in
    let o = c.sink-sink.result in
    let w = c.args.window in
    let same_m = ap (λ k. k.stores.course.machine) c.self.view_is in
    let may : can plan m (Write w) ≡ true = may_as plan c.args.self.now.stores.course.machine m (Write w) (Write w) same_m refl c.requires.can in
    let opened : open_window (slot m o 0).opened ≡ Some w = subst (λ (k : ℕ). open_window (slot m k 0).opened ≡ Some w) (sym c.sink-sink.ensures) (can_facts plan m (Write w) may).opened in
    let bears_sink : bears (open_worker (slot m plan.sink 0).opened) 0 ≡ true = subst (λ (k : State). bears (open_worker (slot k plan.sink 0).opened) 0 ≡ true) (sym same_m) c.requires.bears in
    let bears_it : bears (open_worker (slot m o 0).opened) 0 ≡ true = subst (λ (k : ℕ). bears (open_worker (slot m k 0).opened) 0 ≡ true) (sym c.sink-sink.ensures) bears_sink in
    let held = held_for m hands o 0 w (c.self.invariant (can_runs plan m (Write w) may)) opened bears_it in
    let claim = c.in_ok-claim.claim in
    let fits = also_for o 0 w 0 c.taken-hand.result claim None (held_fits m hands o 0 w held c.taken-hand.result c.taken-hand.ensures.out) c.in_ok-claim.ensures.claim in
    let it : Handed = record { claim = claim; done = None } in
    fits.op ∙ c.sink-sink.ensures

pub invariant_of-self : goal.invariant_of-self
invariant_of-self g c =
    hands_stopped g.J.Naming.run.plan c.self.inside.core.stores.course.machine c.work.new.core.stores.course.machine 0 _ c.taken-hand.new.hands
    c.in_err-claim.ensures.stops.1.machine

pub returns-in_err-write-clause-stops : goal.returns-in_err-write-clause-stops
returns-in_err-write-clause-stops g c =
    let plan = g.J.Naming.run.plan in
    let m = c.self.inside.core.stores.course.machine in
    let hands = c.self.inside.hands in
    let o = c.sink-sink.result in
    let w = c.args.window in
    let same_m = ap (λ k. k.stores.course.machine) c.self.view_is in
    let may : can plan m (Write w) ≡ true = may_as plan c.args.self.now.stores.course.machine m (Write w) (Write w) same_m refl c.requires.can in
    let opened : open_window (slot m o 0).opened ≡ Some w = subst (λ (k : ℕ). open_window (slot m k 0).opened ≡ Some w) (sym c.sink-sink.ensures) (can_facts plan m (Write w) may).opened in
    let bears_sink : bears (open_worker (slot m plan.sink 0).opened) 0 ≡ true = subst (λ (k : State). bears (open_worker (slot k plan.sink 0).opened) 0 ≡ true) (sym same_m) c.requires.bears in
    let bears_it : bears (open_worker (slot m o 0).opened) 0 ≡ true = subst (λ (k : ℕ). bears (open_worker (slot m k 0).opened) 0 ≡ true) (sym c.sink-sink.ensures) bears_sink in
    let held = held_for m hands o 0 w (c.self.invariant (can_runs plan m (Write w) may)) opened bears_it in
    let claim = c.in_ok-claim.claim in
    let fits = also_for o 0 w 0 c.taken-hand.result claim None (held_fits m hands o 0 w held c.taken-hand.result c.taken-hand.ensures.out) c.in_ok-claim.ensures.claim in
    let it : Handed = record { claim = claim; done = None } in
    err_any c.from_residual-in_err-write.result
    (stops_as plan c.work.new.core.stores.course c.args.self.now.stores.course c.write.new.self.stores.course claim.worker 0
    (ap (λ k. k.stores.course) c.in_ok-claim.ensures.core ∙ ap (λ k. k.stores.course) c.self.view_is) fits.worker c.in_err-write.ensures.stops)

pub invariant_of-self-2 : goal.invariant_of-self-2
invariant_of-self-2 g c =
    let plan = g.J.Naming.run.plan in
    let m = c.self.inside.core.stores.course.machine in
    let hands = c.self.inside.hands in
    let o = c.sink-sink.result in
    let w = c.args.window in
    let same_m = ap (λ k. k.stores.course.machine) c.self.view_is in
    let may : can plan m (Write w) ≡ true = may_as plan c.args.self.now.stores.course.machine m (Write w) (Write w) same_m refl c.requires.can in
    let opened : open_window (slot m o 0).opened ≡ Some w = subst (λ (k : ℕ). open_window (slot m k 0).opened ≡ Some w) (sym c.sink-sink.ensures) (can_facts plan m (Write w) may).opened in
    let bears_sink : bears (open_worker (slot m plan.sink 0).opened) 0 ≡ true = subst (λ (k : State). bears (open_worker (slot k plan.sink 0).opened) 0 ≡ true) (sym same_m) c.requires.bears in
    let bears_it : bears (open_worker (slot m o 0).opened) 0 ≡ true = subst (λ (k : ℕ). bears (open_worker (slot m k 0).opened) 0 ≡ true) (sym c.sink-sink.ensures) bears_sink in
    let held = held_for m hands o 0 w (c.self.invariant (can_runs plan m (Write w) may)) opened bears_it in
    let claim = c.in_ok-claim.claim in
    let fits = also_for o 0 w 0 c.taken-hand.result claim None (held_fits m hands o 0 w held c.taken-hand.result c.taken-hand.ensures.out) c.in_ok-claim.ensures.claim in
    let it : Handed = record { claim = claim; done = None } in
    let old = c.self.inside.core.stores.course in
    let new = c.write.new.self.stores.course in
    let row : o < 16 = subst (λ (k : ℕ). k < 16) (sym c.sink-sink.ensures) (place_few plan m c.facts.ensures.small c.facts.ensures.kept plan.sink 0 (can_facts plan m (Write w) may).part).0 in
    let did = did_as plan c.work.new.core.stores.course old new claim.worker 0 (Write claim.window) (Write w)
    (ap (λ k. k.stores.course) c.in_ok-claim.ensures.core) fits.worker (write_of o 0 w 0 it fits) c.in_ok-write.ensures.did in
    let hand : Handed = record { claim = claim; done = Some c.in_ok-claim.done } in
    let same_t = c.put.ensures ∙ ap (λ (t : List (List (Option Handed))). put_cell t o 0 (Some c.worked.result)) c.taken-hand.ensures.rest ∙ ap (λ (h : Handed). put_cell (put_cell hands o 0 None) o 0 (Some h)) c.worked.ensures in
    subst (λ (t : List (List (Option Handed))). AreHands new.machine t) (sym same_t)
    (hands_write plan m new.machine 0 hands c.self.invariant c.facts-2.ensures o 0 w row hand w (omega arith) may held.opened
    (record { op = fits.op; part = fits.part; window = fits.window; worker = fits.worker }) did.machine)

pub returns-clause-did : goal.returns-clause-did
returns-clause-did g c =
    let plan = g.J.Naming.run.plan in
    let m = c.self.inside.core.stores.course.machine in
    let hands = c.self.inside.hands in
    let o = c.sink-sink.result in
    let w = c.args.window in
    let same_m = ap (λ k. k.stores.course.machine) c.self.view_is in
    let may : can plan m (Write w) ≡ true = may_as plan c.args.self.now.stores.course.machine m (Write w) (Write w) same_m refl c.requires.can in
    let opened : open_window (slot m o 0).opened ≡ Some w = subst (λ (k : ℕ). open_window (slot m k 0).opened ≡ Some w) (sym c.sink-sink.ensures) (can_facts plan m (Write w) may).opened in
    let bears_sink : bears (open_worker (slot m plan.sink 0).opened) 0 ≡ true = subst (λ (k : State). bears (open_worker (slot k plan.sink 0).opened) 0 ≡ true) (sym same_m) c.requires.bears in
    let bears_it : bears (open_worker (slot m o 0).opened) 0 ≡ true = subst (λ (k : ℕ). bears (open_worker (slot m k 0).opened) 0 ≡ true) (sym c.sink-sink.ensures) bears_sink in
    let held = held_for m hands o 0 w (c.self.invariant (can_runs plan m (Write w) may)) opened bears_it in
    let claim = c.in_ok-claim.claim in
    let fits = also_for o 0 w 0 c.taken-hand.result claim None (held_fits m hands o 0 w held c.taken-hand.result c.taken-hand.ensures.out) c.in_ok-claim.ensures.claim in
    let it : Handed = record { claim = claim; done = None } in
    did_as plan c.work.new.core.stores.course c.args.self.now.stores.course c.write.new.self.stores.course claim.worker 0 (Write claim.window) (Write w)
    (ap (λ k. k.stores.course) c.in_ok-claim.ensures.core ∙ ap (λ k. k.stores.course) c.self.view_is) fits.worker (write_of o 0 w 0 it fits) c.in_ok-write.ensures.did

pub returns-in_err-claim-clause-rows : goal.returns-in_err-claim-clause-rows
returns-in_err-claim-clause-rows g c =
    let run = g.J.Naming.run in
    subst (λ k. RowsFollow run g.K.Keeper.tells k.stores.course.machine.stored g.K.Keeper.time g.K.Keeper.left k.stores.keeper c.work.new.core.stores.keeper) c.self.view_is
    (rows_stay run g.K.Keeper.tells g.K.Keeper.time g.K.Keeper.left c.self.inside.core.stores.course.machine.stored c.self.inside.core.stores.keeper c.work.new.core.stores.keeper c.work.ensures.keeper c.facts.ensures.durable)

pub returns-in_err-write-clause-rows : goal.returns-in_err-write-clause-rows
returns-in_err-write-clause-rows g c =
    let run = g.J.Naming.run in
    subst (λ k. RowsFollow run g.K.Keeper.tells k.stores.course.machine.stored g.K.Keeper.time g.K.Keeper.left k.stores.keeper c.write.new.self.stores.keeper) (c.in_ok-claim.ensures.core ∙ c.self.view_is)
    c.write.ensures.crash

pub returns-clause-rows : goal.returns-clause-rows
returns-clause-rows g c =
    let run = g.J.Naming.run in
    subst (λ k. RowsFollow run g.K.Keeper.tells k.stores.course.machine.stored g.K.Keeper.time g.K.Keeper.left k.stores.keeper c.write.new.self.stores.keeper) (c.in_ok-claim.ensures.core ∙ c.self.view_is)
    c.write.ensures.crash
