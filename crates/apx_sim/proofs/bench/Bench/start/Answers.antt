use Rattle.std.proofs.Common.{◌≡◌, List, Option, Some, None, true, refl, sym, ap, subst}
use Rattle.apx_history.specs.declared.Event.TheVariants.{Start}
use Rattle.apx_history.specs.Enabled.{can}
use Rattle.apx_history.proofs.Legal.{can_facts}
use Rattle.apx_hands.specs.Table.{put_cell}
use Rattle.apx_sim.specs.Hand.{Handed}
use Rattle.apx_sim.specs.Bench.{AreHands}
use Rattle.apx_sim.proofs.Opened.{place_few, may_as}
use Rattle.apx_sim.proofs.Benches.{hands_stopped, hands_start}
use Rattle.apx_sim.proofs.bench.Bench.start.Goals as goal

pub put-requires-clause-op : goal.put-requires-clause-op
put-requires-clause-op g c =
    let plan = g.J.Naming.run.plan in
    let m = c.self.inside.core.stores.course.machine in
    let may : can plan m (Start c.args.id.op c.args.id.part c.args.window) ≡ true =
    may_as plan c.args.self.now.stores.course.machine m (Start c.args.id.op c.args.id.part c.args.window) (Start c.args.id.op c.args.id.part c.args.window) (ap (λ k. k.stores.course.machine) c.self.view_is) refl c.requires in
    (place_few plan m c.facts.ensures.small c.facts.ensures.kept c.args.id.op c.args.id.part (can_facts plan m (Start c.args.id.op c.args.id.part c.args.window) may).part).0

pub put-requires-clause-part : goal.put-requires-clause-part
put-requires-clause-part g c =
    let plan = g.J.Naming.run.plan in
    let m = c.self.inside.core.stores.course.machine in
    let may : can plan m (Start c.args.id.op c.args.id.part c.args.window) ≡ true =
    may_as plan c.args.self.now.stores.course.machine m (Start c.args.id.op c.args.id.part c.args.window) (Start c.args.id.op c.args.id.part c.args.window) (ap (λ k. k.stores.course.machine) c.self.view_is) refl c.requires in
    (place_few plan m c.facts.ensures.small c.facts.ensures.kept c.args.id.op c.args.id.part (can_facts plan m (Start c.args.id.op c.args.id.part c.args.window) may).part).1

pub invariant_of-self : goal.invariant_of-self
invariant_of-self g c =
    hands_stopped g.J.Naming.run.plan c.self.inside.core.stores.course.machine c.start.new.self.stores.course.machine 0 _ c.self.inside.hands
    c.in_err-claim.ensures.stops.1.machine

pub invariant_of-self-2 : goal.invariant_of-self-2
invariant_of-self-2 g c =
    let plan = g.J.Naming.run.plan in
    let m = c.self.inside.core.stores.course.machine in
    let n = c.start.new.self.stores.course.machine in
    let o = c.args.id.op in
    let i = c.args.id.part in
    let w = c.args.window in
    let may : can plan m (Start c.args.id.op c.args.id.part c.args.window) ≡ true =
    may_as plan c.args.self.now.stores.course.machine m (Start c.args.id.op c.args.id.part c.args.window) (Start c.args.id.op c.args.id.part c.args.window) (ap (λ k. k.stores.course.machine) c.self.view_is) refl c.requires in
    let place = place_few plan m c.facts.ensures.small c.facts.ensures.kept o i (can_facts plan m (Start o i w) may).part in
    let told = c.in_ok-claim.ensures in
    let hand : Handed = record { claim = c.in_ok-claim.claim; done = None } in
    subst (λ (t : List (List (Option Handed))). AreHands n t) (sym c.put.ensures)
    (subst (λ (h : Handed). AreHands n (put_cell c.self.inside.hands o i (Some h))) (sym c.of.ensures)
    (hands_start plan m n 0 c.self.inside.hands c.self.invariant c.facts-2.ensures o i w place.0 hand place.1 may
    (record { op = told.op; part = told.part; window = told.window; worker = told.worker }) told.did.machine))
