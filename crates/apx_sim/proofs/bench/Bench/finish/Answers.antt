use Rattle.std.proofs.Common.{◌≡◌, List, Option, None, true, refl, sym, ap, subst, ◌∙◌}
use Rattle.apx_history.specs.declared.Event.TheVariants.{Finish}
use Rattle.apx_history.specs.State.{State, slot, open_worker}
use Rattle.apx_history.specs.Enabled.{can}
use Rattle.apx_history.specs.Journals.{bears}
use Rattle.apx_history.proofs.Legal.{can_facts, can_runs}
use Rattle.apx_core.specs.Claim.{IsOpenFor}
use Rattle.apx_sim.specs.Hand.{Handed}
use Rattle.apx_sim.specs.Bench.{AreHands}
use Rattle.apx_sim.proofs.Opened.{place_few, held_for, held_some, held_fits, also_for, open_for, on_ok, on_err, did_as, stops_as, finish_of, may_as}
use Rattle.apx_sim.proofs.Benches.{answered, hands_stopped, hands_finish}
use Rattle.apx_sim.proofs.bench.Bench.finish.Goals as goal

pub taken-hand-requires-clause-op : goal.taken-hand-requires-clause-op
taken-hand-requires-clause-op g c =
    let plan = g.J.Naming.run.plan in
    let m = c.self.inside.core.stores.course.machine in
    let may : can plan m (Finish c.args.id.op c.args.id.part c.args.window) ≡ true =
    may_as plan c.args.self.now.stores.course.machine m (Finish c.args.id.op c.args.id.part c.args.window) (Finish c.args.id.op c.args.id.part c.args.window) (ap (λ k. k.stores.course.machine) c.self.view_is) refl c.requires.can in
    (place_few plan m c.facts.ensures.small c.facts.ensures.kept c.args.id.op c.args.id.part (can_facts plan m (Finish c.args.id.op c.args.id.part c.args.window) may).part).0

pub taken-hand-requires-clause-part : goal.taken-hand-requires-clause-part
taken-hand-requires-clause-part g c =
    let plan = g.J.Naming.run.plan in
    let m = c.self.inside.core.stores.course.machine in
    let may : can plan m (Finish c.args.id.op c.args.id.part c.args.window) ≡ true =
    may_as plan c.args.self.now.stores.course.machine m (Finish c.args.id.op c.args.id.part c.args.window) (Finish c.args.id.op c.args.id.part c.args.window) (ap (λ k. k.stores.course.machine) c.self.view_is) refl c.requires.can in
    (place_few plan m c.facts.ensures.small c.facts.ensures.kept c.args.id.op c.args.id.part (can_facts plan m (Finish c.args.id.op c.args.id.part c.args.window) may).part).1

pub taken-hand-requires-clause-held : goal.taken-hand-requires-clause-held
taken-hand-requires-clause-held g c =
    let plan = g.J.Naming.run.plan in
    let m = c.self.inside.core.stores.course.machine in
    let o = c.args.id.op in
    let i = c.args.id.part in
    let w = c.args.window in
    let hands = c.self.inside.hands in
    let same_m = ap (λ k. k.stores.course.machine) c.self.view_is in
    let may : can plan m (Finish o i w) ≡ true = may_as plan c.args.self.now.stores.course.machine m (Finish o i w) (Finish o i w) same_m refl c.requires.can in
    let bears_it : bears (open_worker (slot m o i).opened) 0 ≡ true = subst (λ (k : State). bears (open_worker (slot k o i).opened) 0 ≡ true) (sym same_m) c.requires.bears in
    let held = held_for m hands o i w (c.self.invariant (can_runs plan m (Finish o i w) may)) (can_facts plan m (Finish o i w) may).opened bears_it in
    held_some m hands o i w held

pub finish-requires-clause-can : goal.finish-requires-clause-can
finish-requires-clause-can g c =
    let plan = g.J.Naming.run.plan in
    let m = c.self.inside.core.stores.course.machine in
    let hands = c.self.inside.hands in
    let o = c.args.id.op in
    let i = c.args.id.part in
    let w = c.args.window in
    let same_m = ap (λ k. k.stores.course.machine) c.self.view_is in
    let may : can plan m (Finish o i w) ≡ true = may_as plan c.args.self.now.stores.course.machine m (Finish o i w) (Finish o i w) same_m refl c.requires.can in
    let bears_it : bears (open_worker (slot m o i).opened) 0 ≡ true = subst (λ (k : State). bears (open_worker (slot k o i).opened) 0 ≡ true) (sym same_m) c.requires.bears in
    let held = held_for m hands o i w (c.self.invariant (can_runs plan m (Finish o i w) may)) (can_facts plan m (Finish o i w) may).opened bears_it in
    let claim = c.in_ok-claim.claim in
    let fits = also_for o i w 0 c.taken-hand.result claim None (held_fits m hands o i w held c.taken-hand.result c.taken-hand.ensures.out) c.in_ok-claim.ensures.claim in
    may_as plan m c.work.new.core.stores.course.machine (Finish o i w) (Finish claim.op claim.part claim.window)
    (ap (λ k. k.stores.course.machine) c.in_ok-claim.ensures.core) (finish_of o i w 0 (record { claim = claim; done = None }) fits) may

pub finish-requires-clause-opened : goal.finish-requires-clause-opened
finish-requires-clause-opened g c =
    let plan = g.J.Naming.run.plan in
    let m = c.self.inside.core.stores.course.machine in
    let hands = c.self.inside.hands in
    let o = c.args.id.op in
    let i = c.args.id.part in
    let w = c.args.window in
    let same_m = ap (λ k. k.stores.course.machine) c.self.view_is in
    let may : can plan m (Finish o i w) ≡ true = may_as plan c.args.self.now.stores.course.machine m (Finish o i w) (Finish o i w) same_m refl c.requires.can in
    let bears_it : bears (open_worker (slot m o i).opened) 0 ≡ true = subst (λ (k : State). bears (open_worker (slot k o i).opened) 0 ≡ true) (sym same_m) c.requires.bears in
    let held = held_for m hands o i w (c.self.invariant (can_runs plan m (Finish o i w) may)) (can_facts plan m (Finish o i w) may).opened bears_it in
    let claim = c.in_ok-claim.claim in
    let fits = also_for o i w 0 c.taken-hand.result claim None (held_fits m hands o i w held c.taken-hand.result c.taken-hand.ensures.out) c.in_ok-claim.ensures.claim in
    subst (λ (k : State). IsOpenFor k claim) (sym (ap (λ k. k.stores.course.machine) c.in_ok-claim.ensures.core))
    (open_for m o i w 0 (record { claim = claim; done = None }) fits held.opened)

pub invariant_of-self : goal.invariant_of-self
invariant_of-self g c =
    hands_stopped g.J.Naming.run.plan c.self.inside.core.stores.course.machine c.work.new.core.stores.course.machine 0 _ c.taken-hand.new.hands
    c.in_err-claim.ensures.stops.1.machine

pub invariant_of-self-2 : goal.invariant_of-self-2
invariant_of-self-2 g c =
    let plan = g.J.Naming.run.plan in
    let old = c.self.inside.core.stores.course in
    let mid = c.work.new.core.stores.course in
    let new = c.finish.new.self.stores.course in
    let hands = c.self.inside.hands in
    let o = c.args.id.op in
    let i = c.args.id.part in
    let w = c.args.window in
    let m = old.machine in
    let same_m = ap (λ k. k.stores.course.machine) c.self.view_is in
    let may : can plan m (Finish o i w) ≡ true = may_as plan c.args.self.now.stores.course.machine m (Finish o i w) (Finish o i w) same_m refl c.requires.can in
    let bears_it : bears (open_worker (slot m o i).opened) 0 ≡ true = subst (λ (k : State). bears (open_worker (slot k o i).opened) 0 ≡ true) (sym same_m) c.requires.bears in
    let held = held_for m hands o i w (c.self.invariant (can_runs plan m (Finish o i w) may)) (can_facts plan m (Finish o i w) may).opened bears_it in
    let place = place_few plan m c.facts.ensures.small c.facts.ensures.kept o i (can_facts plan m (Finish o i w) may).part in
    let claim = c.in_ok-claim.claim in
    let fits = also_for o i w 0 c.taken-hand.result claim None (held_fits m hands o i w held c.taken-hand.result c.taken-hand.ensures.out) c.in_ok-claim.ensures.claim in
    let same = ap (λ k. k.stores.course) c.in_ok-claim.ensures.core in
    answered plan old new 0 (Finish o i w) c.taken-hand.new.hands c.finish.result
    (on_ok c.finish.result (did_as plan mid old new claim.worker 0 (Finish claim.op claim.part claim.window) (Finish o i w) same fits.worker (finish_of o i w 0 (record { claim = claim; done = None }) fits)) c.finish.ensures.did)
    (on_err c.finish.result (stops_as plan mid old new claim.worker 0 same fits.worker) c.finish.ensures.stops)
    (λ is. subst (λ (t : List (List (Option Handed))). AreHands new.machine t) (sym c.taken-hand.ensures.rest)
    (hands_finish plan old.machine new.machine 0 hands c.self.invariant c.facts-2.ensures o i w place.0 may is))

pub returns-clause-did : goal.returns-clause-did
returns-clause-did g c =
    let plan = g.J.Naming.run.plan in
    let old = c.self.inside.core.stores.course in
    let m = old.machine in
    let hands = c.self.inside.hands in
    let o = c.args.id.op in
    let i = c.args.id.part in
    let w = c.args.window in
    let same_m = ap (λ k. k.stores.course.machine) c.self.view_is in
    let may : can plan m (Finish o i w) ≡ true = may_as plan c.args.self.now.stores.course.machine m (Finish o i w) (Finish o i w) same_m refl c.requires.can in
    let bears_it : bears (open_worker (slot m o i).opened) 0 ≡ true = subst (λ (k : State). bears (open_worker (slot k o i).opened) 0 ≡ true) (sym same_m) c.requires.bears in
    let held = held_for m hands o i w (c.self.invariant (can_runs plan m (Finish o i w) may)) (can_facts plan m (Finish o i w) may).opened bears_it in
    let claim = c.in_ok-claim.claim in
    let fits = also_for o i w 0 c.taken-hand.result claim None (held_fits m hands o i w held c.taken-hand.result c.taken-hand.ensures.out) c.in_ok-claim.ensures.claim in
    on_ok c.finish.result (did_as plan c.work.new.core.stores.course c.args.self.now.stores.course c.finish.new.self.stores.course claim.worker 0 (Finish claim.op claim.part claim.window) (Finish o i w)
    (ap (λ k. k.stores.course) c.in_ok-claim.ensures.core ∙ ap (λ k. k.stores.course) c.self.view_is) fits.worker (finish_of o i w 0 (record { claim = claim; done = None }) fits)) c.finish.ensures.did

pub returns-clause-stops : goal.returns-clause-stops
returns-clause-stops g c =
    let plan = g.J.Naming.run.plan in
    let old = c.self.inside.core.stores.course in
    let m = old.machine in
    let hands = c.self.inside.hands in
    let o = c.args.id.op in
    let i = c.args.id.part in
    let w = c.args.window in
    let same_m = ap (λ k. k.stores.course.machine) c.self.view_is in
    let may : can plan m (Finish o i w) ≡ true = may_as plan c.args.self.now.stores.course.machine m (Finish o i w) (Finish o i w) same_m refl c.requires.can in
    let bears_it : bears (open_worker (slot m o i).opened) 0 ≡ true = subst (λ (k : State). bears (open_worker (slot k o i).opened) 0 ≡ true) (sym same_m) c.requires.bears in
    let held = held_for m hands o i w (c.self.invariant (can_runs plan m (Finish o i w) may)) (can_facts plan m (Finish o i w) may).opened bears_it in
    let claim = c.in_ok-claim.claim in
    let fits = also_for o i w 0 c.taken-hand.result claim None (held_fits m hands o i w held c.taken-hand.result c.taken-hand.ensures.out) c.in_ok-claim.ensures.claim in
    on_err c.finish.result (stops_as plan c.work.new.core.stores.course c.args.self.now.stores.course c.finish.new.self.stores.course claim.worker 0
    (ap (λ k. k.stores.course) c.in_ok-claim.ensures.core ∙ ap (λ k. k.stores.course) c.self.view_is) fits.worker) c.finish.ensures.stops
